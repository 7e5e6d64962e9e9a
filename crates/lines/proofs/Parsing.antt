-- A text is read as a line exactly where it begins with that line's text. Assumes nothing.
use Rattle.std.proofs.Common.{◌≡◌, ℕ, zero, suc, ◌<◌, Bool, true, false, cond, not, ◌&&◌, eqb, List, [], ◌∷◌, ◌++◌, length, get_or, take, drop, is_some, Some, None, decimal, Option, sym, refl, ap, ◌∙◌, subst, ⊎_elim, arith}
use Rattle.std.specs.Char.{is_ascii_digit}
use Rattle.std.specs.Option.{option_map, option_and_then, option_or}
use Rattle.std.specs.List.{AllByRecursion}
use Rattle.std.proofs.Math.Seq.{get_or-append_seam}
use Rattle.std.proofs.lemmas.List.{append_assoc, length_push, get_or_append_left}
use Rattle.std.proofs.lemmas.Bool.{cases_Bool, and_parts, not-true, cond-true, cond-false, eqb-true, eq-eqb}
use Rattle.lines.specs.declared.line.Form.{Form}
use Rattle.lines.specs.declared.line.Form.TheVariants.{Day, Depot, Capacity, Drive, TravelBudget, ServeBudget, DemandBudget, Stops, Stop, Leg, End}
use Rattle.lines.specs.declared.line.Line.{Line}
use Rattle.lines.specs.declared.line.Line.TheVariants as line
use Rattle.lines.specs.Numerals.{number_at}
use Rattle.lines.specs.Scan.{after_byte, scanned}
use Rattle.lines.specs.Forms.{template, filled, figures, line_text, InForm}
use Rattle.lines.specs.Lines.{line_of, forms, as_form, first_line, BeginsWith, Parsed}
use Rattle.lines.proofs.Digits.{number_sound, number_complete}
use Rattle.lines.proofs.Filling.{at_hole, at_byte}

-- each number of the list, and the number read past its end, has at most six digits
abbrev pub Small : List ℕ → Type 0
Small ns = (i : ℕ) → get_or ns i 0 < 1000000

small_push : (ns : List ℕ) (n : ℕ) → n < 1000000 → Small ns → Small (ns ++ n ∷ [])
small_push [] n h s zero = h
small_push [] n h s (suc i) = omega arith
small_push (m ∷ ns) n h s zero = s 0
small_push (m ∷ ns) n h s (suc i) = small_push ns n h (λ k. s (suc k)) i

-- what a scan that came through says of the text
record Scanned (p : List ℕ) (k : ℕ) (ns t ns' r : List ℕ) : Type 0 where
  text : t ≡ filled p k ns' ++ r
  small : Small ns'
  kept : (i : ℕ) → i < k → get_or ns' i 0 ≡ get_or ns i 0

byte_sound : (c : ℕ) (t r : List ℕ) → after_byte c t ≡ Some r → t ≡ c ∷ r
byte_sound c [] r e = let z : ◌≡◌ {A = ℕ} 0 1 = cc in absurd (omega arith)
byte_sound c (b ∷ t) r e =
    ⊎_elim
    (λ y. let same : b ≡ c = eqb-true b c y in let rest : t ≡ r = let f = rw y at e in cc in (λ i. same i ∷ rest i))
    (λ n. let f = rw n at e in let z : ◌≡◌ {A = ℕ} 0 1 = cc in absurd (omega arith))
    (cases_Bool (eqb b c))

-- a scan of p that comes through says the above
Sound : List ℕ → Type 0
Sound p = (k : ℕ) (ns t ns' r : List ℕ) → scanned p ns t ≡ Some (ns', r) → length ns ≡ k → Small ns → Scanned p k ns t ns' r

module _ (c : ℕ) (p : List ℕ) (k : ℕ) (ns t ns' r : List ℕ) where
  after_number : Sound p → eqb c 35 ≡ true → length ns ≡ k → Small ns → (o : Option (ℕ × List ℕ)) → number_at t ≡ o → option_and_then (λ found. scanned p (ns ++ found.0 ∷ []) found.1) o ≡ Some (ns', r) → Scanned (c ∷ p) k ns t ns' r
  unfolding Sound
  after_number more y long s None is f = let z : ◌≡◌ {A = ℕ} 0 1 = cc in absurd (omega arith)
  after_number more y long s (Some found) is f =
      let front = number_sound t found.0 found.1 is in
      let back = more (suc k) (ns ++ found.0 ∷ []) found.1 ns' r f (length_push ns found.0 ∙ omega arith) (small_push ns found.0 front.1 s) in
      let here : get_or ns' k 0 ≡ found.0 = back.kept k (omega arith) ∙ ap (λ j. get_or (ns ++ found.0 ∷ []) j 0) (sym long) ∙ get_or-append_seam ns found.0 [] 0 in
      record {
        text = front.0 ∙ (λ i. decimal (sym here i) ++ back.text i) ∙ sym (append_assoc (decimal (get_or ns' k 0)) (filled p (suc k) ns') r) ∙ ap (λ q. q ++ r) (sym (at_hole c p k ns' y));
        small = back.small;
        kept = λ i h. back.kept i (omega arith) ∙ get_or_append_left ns (found.0 ∷ []) 0 i (omega arith);
      }

  after_same : Sound p → eqb c 35 ≡ false → length ns ≡ k → Small ns → (o : Option (List ℕ)) → after_byte c t ≡ o → option_and_then (scanned p ns) o ≡ Some (ns', r) → Scanned (c ∷ p) k ns t ns' r
  unfolding Sound
  after_same more n long s None is f = let z : ◌≡◌ {A = ℕ} 0 1 = cc in absurd (omega arith)
  after_same more n long s (Some rest) is f =
      let back = more k ns rest ns' r f long s in
      record {
        text = byte_sound c t rest is ∙ ap (λ q. c ∷ q) back.text ∙ ap (λ q. q ++ r) (sym (at_byte c p k ns' n));
        small = back.small;
        kept = back.kept;
      }

scan_sound : (p : List ℕ) → Sound p
unfolding Sound
scan_sound [] k ns t ns' r e long s =
    let pair : ◌≡◌ {A = List ℕ × List ℕ} (ns, t) (ns', r) = cc in
    let same : ns ≡ ns' = ap (λ p. p.0) pair in
    record { text = ap (λ p. p.1) pair; small = subst Small same s; kept = λ i h. ap (λ l. get_or l i 0) (sym same) }
scan_sound (c ∷ p) k ns t ns' r e long s = ⊎_elim
    (λ y. after_number c p k ns t ns' r (scan_sound p) y long s (number_at t) refl (sym (cond-true (eqb c 35) _ _ y) ∙ e))
    (λ n. after_same c p k ns t ns' r (scan_sound p) n long s (after_byte c t) refl (sym (cond-false (eqb c 35) _ _ n) ∙ e))
    (cases_Bool (eqb c 35))

-- a byte that ends a number: neither a digit nor another number's place
abbrev plain : List ℕ → Bool
plain [] = false
plain (b ∷ p) = not (eqb b 35) && not (is_ascii_digit b)

-- each number of a template is ended by a plain byte
abbrev spaced : List ℕ → Bool
spaced [] = true
spaced (c ∷ p) = cond (eqb c 35) (plain p && spaced p) (spaced p)

-- a list of numbers, and after it those that a template asks for, taken from another list
abbrev storing : Bool → ℕ → List ℕ → List ℕ → (ℕ → List ℕ → List ℕ) → List ℕ
storing true k ns ms rest = rest (suc k) (ns ++ get_or ms k 0 ∷ [])
storing false k ns ms rest = rest k ns

abbrev stored : List ℕ → ℕ → List ℕ → List ℕ → List ℕ
stored [] k ns ms = ns
stored (c ∷ p) k ns ms = storing (eqb c 35) k ns ms (λ j xs. stored p j xs ms)

-- a number before a plain byte is read back
number_before : (p : List ℕ) (k : ℕ) (ms r : List ℕ) (n : ℕ) → plain p ≡ true → n < 1000000 → number_at (decimal n ++ (filled p k ms ++ r)) ≡ Some (n, filled p k ms ++ r)
number_before [] k ms r n pl h = absurd (let z : ◌≡◌ {A = Bool} false true = pl in let y : ◌≡◌ {A = ℕ} 0 1 = cc in omega arith)
number_before (b ∷ p) k ms r n pl h =
    let both = and_parts (not (eqb b 35)) (not (is_ascii_digit b)) pl in
    let front = at_byte b p k ms (not-true _ both.0) in
    rw front (number_complete n b (filled p k ms ++ r) h (not-true _ both.1))

scan_complete : (p : List ℕ) (k : ℕ) (ns ms r : List ℕ) → spaced p ≡ true → Small ms → scanned p ns (filled p k ms ++ r) ≡ Some (stored p k ns ms, r)
scan_complete [] k ns ms r sp s = refl
scan_complete (c ∷ p) k ns ms r sp s =
    ⊎_elim
    (λ y.
    let both = and_parts (plain p) (spaced p) (sym (cond-true (eqb c 35) _ _ y) ∙ sp) in
    let read = number_before p (suc k) ms r (get_or ms k 0) both.0 (s k) in
    let front : filled (c ∷ p) k ms ++ r ≡ decimal (get_or ms k 0) ++ (filled p (suc k) ms ++ r) = ap (λ q. q ++ r) (at_hole c p k ms y) ∙ append_assoc (decimal (get_or ms k 0)) (filled p (suc k) ms) r in
    let kept : stored (c ∷ p) k ns ms ≡ stored p (suc k) (ns ++ get_or ms k 0 ∷ []) ms = ap (λ b. storing b k ns ms (λ j xs. stored p j xs ms)) y in
    ap (λ t. scanned (c ∷ p) ns t) front ∙ cond-true (eqb c 35) _ _ y ∙ ap (λ o. option_and_then (λ found. scanned p (ns ++ found.0 ∷ []) found.1) o) read ∙ scan_complete p (suc k) (ns ++ get_or ms k 0 ∷ []) ms r both.1 s ∙ ap (λ q. Some (q, r)) (sym kept))
    (λ n.
    let front = at_byte c p k ms n in
    let same : after_byte c (c ∷ (filled p k ms ++ r)) ≡ Some (filled p k ms ++ r) = cond-true _ _ _ (eq-eqb c c refl) in
    let kept : stored (c ∷ p) k ns ms ≡ stored p k ns ms = ap (λ b. storing b k ns ms (λ j xs. stored p j xs ms)) n in
    ap (λ t. scanned (c ∷ p) ns (t ++ r)) front ∙ cond-false (eqb c 35) _ _ n ∙ ap (λ o. option_and_then (scanned p ns) o) same ∙ scan_complete p k ns ms r (sym (cond-false (eqb c 35) _ _ n) ∙ sp) s ∙ ap (λ q. Some (q, r)) (sym kept))
    (cases_Bool (eqb c 35))

-- a line that is made of a form and numbers has just their text
line_text_lem : (f : Form) (ns : List ℕ) → line_text (line_of f ns) ≡ filled (template f) 0 ns
line_text_lem Day ns = refl
line_text_lem Depot ns = refl
line_text_lem Capacity ns = refl
line_text_lem Drive ns = refl
line_text_lem TravelBudget ns = refl
line_text_lem ServeBudget ns = refl
line_text_lem DemandBudget ns = refl
line_text_lem Stops ns = refl
line_text_lem Stop ns = refl
line_text_lem Leg ns = refl
line_text_lem End ns = refl

line_in_form : (f : Form) (ns : List ℕ) → Small ns → InForm (line_of f ns)
line_in_form Day ns s = tt
line_in_form Depot ns s = (s 0, (s 1, tt))
line_in_form Capacity ns s = (s 0, tt)
line_in_form Drive ns s = (s 0, tt)
line_in_form TravelBudget ns s = (s 0, tt)
line_in_form ServeBudget ns s = (s 0, tt)
line_in_form DemandBudget ns s = (s 0, tt)
line_in_form Stops ns s = (s 0, tt)
line_in_form Stop ns s = (s 0, (s 1, (s 2, (s 3, (s 4, (s 5, (s 6, (s 7, (s 8, (s 9, tt))))))))))
line_in_form Leg ns s = (s 0, (s 1, (s 2, (s 3, tt))))
line_in_form End ns s = tt

as_form-sound : (f : Form) (t : List ℕ) (l : Line) (r : List ℕ) → as_form f t ≡ Some (l, r) → BeginsWith t l r
unfolding Sound
as_form-sound f t l r e = go (scanned (template f) [] t) refl e
  where
    go : (o : Option (List ℕ × List ℕ)) → scanned (template f) [] t ≡ o → option_map {U = Line × List ℕ} (λ p. (line_of f p.0, p.1)) o ≡ Some (l, r) → BeginsWith t l r
    go None is e = let z : ◌≡◌ {A = ℕ} 0 1 = cc in absurd (omega arith)
    go (Some found) is e =
        let pair : ◌≡◌ {A = Line × List ℕ} (line_of f found.0, found.1) (l, r) = cc in
        let all = scan_sound (template f) 0 [] t found.0 found.1 is refl (λ i. omega arith) in
        subst (λ q. BeginsWith t q.0 q.1) pair
        (line_in_form f found.0 all.small, all.text ∙ ap (λ q. q ++ found.1) (sym (line_text_lem f found.0)))

first_sound : (fs : List Form) (t : List ℕ) (l : Line) (r : List ℕ) → first_line fs t ≡ Some (l, r) → BeginsWith t l r
first_sound [] t l r e = let z : ◌≡◌ {A = ℕ} 0 1 = cc in absurd (omega arith)
first_sound (f ∷ fs) t l r e = go (as_form f t) refl e (first_sound fs t l r)
  where
    go : (o : Option (Line × List ℕ)) → as_form f t ≡ o → option_or o (first_line fs t) ≡ Some (l, r) → (first_line fs t ≡ Some (l, r) → BeginsWith t l r) → BeginsWith t l r
    go None is e more = more e
    go (Some found) is e more = as_form-sound f t l r (is ∙ e)

pub small_figures : (ns : List ℕ) → AllByRecursion (λ n. n < 1000000) ns → Small ns
small_figures [] a i = omega arith
small_figures (n ∷ ns) a zero = a.0
small_figures (n ∷ ns) a (suc i) = small_figures ns a.1 i

-- a line's own form reads it back
reads_back : (f : Form) (ms r : List ℕ) → spaced (template f) ≡ true → Small ms → as_form f (filled (template f) 0 ms ++ r) ≡ Some (line_of f (stored (template f) 0 [] ms), r)
reads_back f ms r sp s = ap (option_map {U = Line × List ℕ} (λ p. (line_of f p.0, p.1))) (scan_complete (template f) 0 [] ms r sp s)

-- no form of a list reads the text
abbrev unread : List Form → List ℕ → Bool
unread [] t = true
unread (f ∷ fs) t = not (is_some (as_form f t)) && unread fs t

none_before : (k : ℕ) (fs : List Form) (t : List ℕ) → unread (take k fs) t ≡ true → first_line fs t ≡ first_line (drop k fs) t
none_before zero fs t u = refl
none_before (suc k) [] t u = refl
none_before (suc k) (f ∷ fs) t u =
    let both = and_parts (not (is_some (as_form f t))) (unread (take k fs) t) u in
    go (as_form f t) refl (not-true _ both.0) ∙ none_before k fs t both.1
  where
    go : (o : Option (Line × List ℕ)) → as_form f t ≡ o → is_some (as_form f t) ≡ false → first_line (f ∷ fs) t ≡ first_line fs t
    go None is no_line = ap (λ o. option_or o (first_line fs t)) is
    go (Some x) is no_line = let y : is_some (as_form f t) ≡ true = ap is_some is in let b : ◌≡◌ {A = Bool} true false = sym y ∙ no_line in let z : ◌≡◌ {A = ℕ} 0 1 = cc in absurd (omega arith)

-- a line is read by its own form, which is number k, where the forms before it do not read it
read_by : (k : ℕ) (f : Form) (fs : List Form) (l : Line) (r : List ℕ) → drop k forms ≡ f ∷ fs → unread (take k forms) (filled (template f) 0 (figures l) ++ r) ≡ true → spaced (template f) ≡ true → line_of f (stored (template f) 0 [] (figures l)) ≡ l → InForm l → first_line forms (filled (template f) 0 (figures l) ++ r) ≡ Some (l, r)
read_by k f fs l r here before sp is a =
    let t = filled (template f) 0 (figures l) ++ r in
    none_before k forms t before ∙ ap (λ gs. first_line gs t) here ∙ ap (λ o. option_or o (first_line fs t)) (reads_back f (figures l) r sp (small_figures (figures l) a)) ∙ ap (λ q. Some (q, r)) is

-- a line in form is read back: the forms before its own begin otherwise
first_complete : (l : Line) (r : List ℕ) → InForm l → first_line forms (line_text l ++ r) ≡ Some (l, r)
first_complete line.Day r a = read_by 0 Day _ line.Day r refl refl refl refl a
first_complete (line.Depot o c) r a = read_by 1 Depot _ (line.Depot o c) r refl refl refl refl a
first_complete (line.Capacity n) r a = read_by 2 Capacity _ (line.Capacity n) r refl refl refl refl a
first_complete (line.Drive n) r a = read_by 3 Drive _ (line.Drive n) r refl refl refl refl a
first_complete (line.TravelBudget n) r a = read_by 4 TravelBudget _ (line.TravelBudget n) r refl refl refl refl a
first_complete (line.ServeBudget n) r a = read_by 5 ServeBudget _ (line.ServeBudget n) r refl refl refl refl a
first_complete (line.DemandBudget n) r a = read_by 6 DemandBudget _ (line.DemandBudget n) r refl refl refl refl a
first_complete (line.Stops n) r a = read_by 7 Stops _ (line.Stops n) r refl refl refl refl a
first_complete (line.Stop n s) r a = read_by 8 Stop _ (line.Stop n s) r refl refl refl refl a
first_complete (line.Leg i j g) r a = read_by 9 Leg _ (line.Leg i j g) r refl refl refl refl a
first_complete line.End r a = read_by 10 End _ line.End r refl refl refl refl a

pub first_parsed : (t : List ℕ) → Parsed t (first_line forms t)
first_parsed t = record { sound = first_sound forms t; complete = λ l r b. ap (first_line forms) b.1 ∙ first_complete l r b.0 }
