-- How long the text of a valid day is. Assumes nothing.
use Rattle.std.proofs.Common.{◌≡◌, ℕ, zero, suc, ◌+◌, ◌*◌, ◌<◌, ◌≤◌, List, [], ◌∷◌, ◌++◌, length, get_or, sym, refl, ap, ◌∙◌, subst, ⊎_elim, suc-mul, arith, length-append}
use Rattle.std.specs.List.{flat_map, AllByRecursion}
use Rattle.std.proofs.lemmas.List.{append_assoc, append-nil}
use Rattle.std.proofs.lemmas.Bool.{and_parts, leb-true, cases_eq, cond-true, cond-false, eq-eqb, ne_eqb}
use Rattle.std.proofs.lemmas.Fmt.{length-decimal-le}
use Rattle.lines.specs.declared.line.Line.{Line}
use Rattle.lines.specs.declared.line.Line.TheVariants as line
use Rattle.lines.specs.Scan.{holes}
use Rattle.lines.specs.Forms.{template, form_of, figures, line_text, InForm}
use Rattle.lines.proofs.Filling.{filled_short}
use Rattle.lines.proofs.Parsing.{small_figures}
use Rattle.dayfile.specs.Days.{Day, Valid, span, head_lines, stop_line, leg_line, legs_from, day_text, stop_at, leg_at}
use Rattle.dayfile.specs.Walking.{count, line_due, Range}
use Rattle.dayfile.specs.declared.expectation.Expectation.TheVariants as due
use Rattle.dayfile.proofs.Standing.{fits, in_form_lem}

joined_append : (ls ms : List Line) → flat_map line_text (ls ++ ms) ≡ flat_map line_text ls ++ flat_map line_text ms
joined_append [] ms = refl
joined_append (l ∷ ls) ms = ap (λ q. line_text l ++ q) (joined_append ls ms) ∙ sym (append_assoc (line_text l) (flat_map line_text ls) (flat_map line_text ms))

-- a line in form has a bounded length
line_short : (l : Line) → InForm l → length (line_text l) ≤ length (template (form_of l)) + holes (template (form_of l)) * 5
line_short l a =
    filled_short 5 (template (form_of l)) 0 (figures l)
    (λ i. let small = small_figures (figures l) a i in length-decimal-le 6 (get_or (figures l) i 0) (omega arith) small (omega arith))

-- how long the lines of a list are together
abbrev size : List Line → ℕ
size ls = length (flat_map line_text ls)

size_append : (ls ms : List Line) → size (ls ++ ms) ≡ size ls + size ms
size_append ls ms = ap length (joined_append ls ms) ∙ length-append (flat_map line_text ls) (flat_map line_text ms)

-- lines that come in parts of at most b bytes
size_span : (f : ℕ → List Line) (b a n : ℕ) → ((k : ℕ) → a ≤ k → k < a + n → size (f k) ≤ b) → size (span f a n) ≤ n * b
size_span f b a zero h = omega arith
size_span f b a (suc n) h =
    omega (arith, size_append (f a) (span f (suc a) n), h a (omega arith) (omega arith), size_span f b (suc a) n (λ k p q. h k (omega arith) (omega arith)), suc-mul n b)

size_one : (l : Line) → size (l ∷ []) ≡ length (line_text l)
size_one l = ap length (append-nil (line_text l))

size_all : (b : ℕ) (ls : List Line) → AllByRecursion (λ l. length (line_text l) ≤ b) ls → size ls ≤ length ls * b
size_all b [] a = omega arith
size_all b (l ∷ ls) a = omega (arith, length-append (line_text l) (flat_map line_text ls), a.0, size_all b ls a.1, suc-mul (length ls) b)

module _ (d : Day) (v : Valid d) where
  few : (1 ≤ count d) × (count d ≤ 40)
  few = let p = and_parts _ _ v.count in (leb-true 1 (count d) p.0, leb-true (count d) 40 p.1)

  due_short : (e : _) → Range e d → length (line_text (line_due d e)) ≤ length (template (form_of (line_due d e))) + holes (template (form_of (line_due d e))) * 5
  due_short e r = let f = fits e d v r in line_short (line_due d e) (in_form_lem (line_due d e) f.0 f.3)

  head_short : size (head_lines d) ≤ 240
  head_short =
      size_all 30 (head_lines d)
      (omega (arith, due_short due.Day tt), (omega (arith, due_short due.Depot tt), (omega (arith, due_short due.Capacity tt), (omega (arith, due_short due.Drive tt), (omega (arith, due_short due.TravelBudget tt), (omega (arith, due_short due.ServeBudget tt), (omega (arith, due_short due.DemandBudget tt), (omega (arith, due_short due.Stops tt), tt))))))))

  stops_short : size (span (stop_line d) 1 (count d)) ≤ count d * 140
  stops_short =
      size_span (stop_line d) 140 1 (count d)
      (λ k p q. let n = few in omega (arith, size_one (line.Stop k (stop_at d k)), due_short (due.Stop k (count d)) ((refl, n.0, n.1), p, omega arith)))

  leg_short : (i j : ℕ) → i ≤ count d → j ≤ count d → size (leg_line d i j) ≤ 34
  leg_short i j p q =
      let n = few in
      ⊎_elim
      (λ e. subst (λ l. size l ≤ 34) (sym (cond-true _ _ _ (eq-eqb i j e))) (omega arith))
      (λ e. subst (λ l. size l ≤ 34) (sym (cond-false _ _ _ (ne_eqb i j e))) (omega (arith, size_one (line.Leg i j (leg_at d i j)), due_short (due.Leg i j (count d)) ((refl, n.0, n.1), p, q, e))))
      (cases_eq i j)

  legs_short : size (span (legs_from d) 0 (suc (count d))) ≤ suc (count d) * 1394
  legs_short =
      size_span (legs_from d) 1394 0 (suc (count d))
      (λ i p q. let n = few in omega (arith, size_span (leg_line d i) 34 0 (suc (count d)) (λ j g h. leg_short i j (omega arith) (omega arith))))

  pub day_short : length (day_text d) ≤ 65536
  unfolding day_text
  day_short =
      let n = few in
      omega (
        arith,
        size_append (head_lines d) (span (stop_line d) 1 (count d) ++ (span (legs_from d) 0 (suc (count d)) ++ line.End ∷ [])),
        size_append (span (stop_line d) 1 (count d)) (span (legs_from d) 0 (suc (count d)) ++ line.End ∷ []),
        size_append (span (legs_from d) 0 (suc (count d))) (line.End ∷ []),
        head_short,
        stops_short,
        legs_short,
        size_one line.End,
        due_short due.End n,
      )
