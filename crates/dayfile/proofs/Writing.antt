-- Walking over the lines of a day: what makes it valid, and its text written line by line. Assumes nothing.
use Rattle.std.proofs.Common.{◌≡◌, ℕ, zero, suc, ◌+◌, ◌-◌, ◌<◌, ◌≤◌, Bool, true, cond, leb, ◌&&◌, List, [], ◌∷◌, ◌++◌, length, take, drop, sym, refl, ap, ◌∙◌, subst, ⊎_elim, arith, length-append, length-drop}
use borrow.Rule.Slice.PartMut.{put_mid}
use Rattle.std.specs.List.{flat_map, list_all, AllByRecursion}
use Rattle.std.proofs.lemmas.List.{take_rest, drop_all, append-nil}
use Rattle.std.proofs.lemmas.Bool.{and_parts, and_from, leb-true, le-leb, cases_eq, cond-true, cond-false, ne_eqb}
use Rattle.lines.specs.declared.line.Line.{Line}
use Rattle.lines.specs.declared.line.Line.TheVariants as line
use Rattle.lines.specs.Forms.{line_text}
use Rattle.records.proofs.Writing.{Sofar, nothing_yet, part_written}
use Rattle.records.proofs.Writing.{fits as fits_in}
use Rattle.dayfile.specs.Bounds.{is_count, within, ordered}
use Rattle.dayfile.specs.Days.{Day, Valid, span, head_lines, stop_line, leg_line, legs_from, day_lines, day_text}
use Rattle.dayfile.specs.Walking.{count, line_due, Range, from}
use Rattle.dayfile.specs.declared.expectation.Expectation.{Expectation}
use Rattle.dayfile.specs.declared.expectation.Expectation.TheVariants as due
use Rattle.dayfile.specs.Expecting.{Follows, day, depot, capacity, drive, travel_budget, serve_budget, demand_budget, stops, stop, leg, end}
use Rattle.dayfile.proofs.Places.{from_step}
use Rattle.dayfile.proofs.Places.{after_stop_lem, after_leg_lem}
use Rattle.dayfile.proofs.Standing.{fits, leads}
use Rattle.dayfile.proofs.Sizes.{day_short}

-- a line whose numbers are within bounds and whose window is in order
abbrev pub Good : Line → Type 0
Good l = (within l ≡ true) × (ordered l ≡ true)

all_front : {X : Type 0} (P : X → Type 0) (xs ys : List X) → AllByRecursion P (xs ++ ys) → AllByRecursion P xs
all_front P [] ys a = tt
all_front P (x ∷ xs) ys a = (a.0, all_front P xs ys a.1)

all_rest : {X : Type 0} (P : X → Type 0) (xs ys : List X) → AllByRecursion P (xs ++ ys) → AllByRecursion P ys
all_rest P [] ys a = a
all_rest P (x ∷ xs) ys a = all_rest P xs ys a.1

all_span : {X : Type 0} (P : X → Type 0) (f : ℕ → List X) (a n k : ℕ) → AllByRecursion P (span f a n) → a ≤ k → k < a + n → AllByRecursion P (f k)
all_span P f a zero k h p q = absurd (omega arith)
all_span P f a (suc n) k h p q =
    ⊎_elim
    (λ e. subst (λ m. AllByRecursion P (f m)) e (all_front P (f a) (span f (suc a) n) h))
    (λ e. all_span P f (suc a) n k (all_rest P (f a) (span f (suc a) n) h) (⊎_elim (λ g. absurd (e g)) (λ g. omega arith) (cases_eq a k)) (omega arith))
    (cases_eq a k)

-- a day whose lines are all good is valid
pub valid_lines : (d : Day) → AllByRecursion Good (day_lines d) → Valid d
valid_lines d a =
    let h = all_front Good (head_lines d) _ a in
    let rest = all_rest Good (head_lines d) (span (stop_line d) 1 (count d) ++ (span (legs_from d) 0 (suc (count d)) ++ line.End ∷ [])) a in
    let ss = all_front Good (span (stop_line d) 1 (count d)) (span (legs_from d) 0 (suc (count d)) ++ line.End ∷ []) rest in
    let ls = all_front Good (span (legs_from d) 0 (suc (count d))) (line.End ∷ []) (all_rest Good (span (stop_line d) 1 (count d)) (span (legs_from d) 0 (suc (count d)) ++ line.End ∷ []) rest) in
    record {
      capacity = h.1.1.0.0;
      drive = h.1.1.1.0.0;
      travel_budget = h.1.1.1.1.0.0;
      serve_budget = h.1.1.1.1.1.0.0;
      demand_budget = h.1.1.1.1.1.1.0.0;
      count = h.1.1.1.1.1.1.1.0.0;
      depot = let g = h.1.0 in let w = and_parts _ _ g.0 in (w.0, w.1, leb-true _ _ g.1);
      stop = λ k p q. let g = (all_span Good (stop_line d) 1 (count d) k ss p (omega arith)).0 in (g.0, leb-true _ _ g.1);
      leg = λ i j p q ne.
          let row = all_span Good (legs_from d) 0 (suc (count d)) i ls (omega arith) (omega arith) in
          let g = (subst (AllByRecursion Good) (cond-false _ _ _ (ne_eqb i j ne)) (all_span Good (leg_line d i) 0 (suc (count d)) j row (omega arith) (omega arith))).0 in
          (and_parts _ _ g.0).1;
    }

-- where a day has as many stops as a day may have, the line after one of its lines is one of its lines
pub range_next : {e : Expectation} {l : Line} {next : Expectation} → Follows e l next → (d : Day) → l ≡ line_due d e → is_count (count d) ≡ true → Range e d → Range next d
range_next day d is few r = tt
range_next depot d is few r = tt
range_next capacity d is few r = tt
range_next drive d is few r = tt
range_next travel_budget d is few r = tt
range_next serve_budget d is few r = tt
range_next demand_budget d is few r = tt
range_next (stops {n}) d is few r =
    let same : n ≡ count d = cc in
    let p = and_parts (leb 1 (count d)) (leb (count d) 40) few in
    let low = leb-true 1 (count d) p.0 in
    let high = leb-true (count d) 40 p.1 in
    ((same, omega arith, omega arith), omega arith, omega arith)
range_next (stop {k} {n}) d is few r = after_stop_lem k n (λ q. Range q d) (λ a. (r.0, omega arith, omega arith)) (λ a. (r.0, omega arith, r.0.1, λ e. omega arith))
range_next (leg {i} {j} {n}) d is few r =
    after_leg_lem i j n (λ q. Range q d)
    (λ a b. (r.0, r.1, omega arith, λ e. b (sym e)))
    (λ a b. (r.0, r.1, omega arith, λ e. omega arith))
    (λ a b. (r.0, omega arith, omega arith, λ e. omega arith))
    (λ a b. (omega arith, omega arith))
range_next end d is few r = r

pub step_from : {e : Expectation} {l : Line} {next : Expectation} → Follows e l next → (d : Day) → l ≡ line_due d e → Range e d → from d e ≡ l ∷ from d next
step_from {next = next} f d is r = from_step f d r ∙ ap (λ q. q ∷ from d next) (sym is)

-- each line of a valid day is good
good_from : (ls : List Line) (e : Expectation) (d : Day) → Valid d → Range e d → from d e ≡ ls → AllByRecursion Good ls
good_from [] e d v r is = tt
good_from (l ∷ ls) e d v r is =
    let some : (e ≡ due.Nothing → ⊥) = λ z. let none : [] ≡ l ∷ ls = sym (ap (from d) z) ∙ is in absurd (let one : ◌≡◌ {A = ℕ} 0 1 = cc in omega arith) in
    let on = leads e d some in
    let step : line_due d e ∷ from d on.0 ≡ l ∷ ls = sym (from_step on.1 d r) ∙ is in
    let first : line_due d e ≡ l = cc in
    let rest : from d on.0 ≡ ls = cc in
    let f = fits e d v r in
    (subst Good first (f.0, f.2), good_from ls on.0 d v (range_next on.1 d refl v.count r) rest)

abbrev pub good : Line → Bool
good l = within l && ordered l

all_good : (ls : List Line) → list_all good ls ≡ true → AllByRecursion Good ls
all_good [] a = tt
all_good (l ∷ ls) a = let p = and_parts _ _ a in (and_parts _ _ p.0, all_good ls p.1)

good_all : (ls : List Line) → AllByRecursion Good ls → list_all good ls ≡ true
good_all [] a = refl
good_all (l ∷ ls) a = and_from _ _ (and_from _ _ a.0.0 a.0.1) (good_all ls a.1)

pub valid_so : (d : Day) → list_all good (day_lines d) ≡ true → Valid d
valid_so d a = valid_lines d (all_good (day_lines d) a)

pub valid_then : (d : Day) → Valid d → list_all good (day_lines d) ≡ true
valid_then d v = good_all (day_lines d) (good_from (day_lines d) due.Day d v tt refl)

-- the lines before those of a list are written
module _ (d : Day) (old out : List ℕ) (ls : List Line) (at : ℕ) (so : Sofar (day_text d) old out (flat_map line_text ls) at) (v : Valid d) (room : 65536 ≤ length out) (l : Line) (more : List Line) (is : ls ≡ l ∷ more) where
  short : length (day_text d) ≤ length out
  short = omega (arith, day_short d v)

  -- there is room for the next line
  pub line_fits : at + length (line_text l) ≤ length out
  line_fits =
      let size = ap (λ q. length (flat_map line_text q)) is ∙ length-append (line_text l) (flat_map line_text more) in
      omega (arith, fits_in (day_text d) old out (flat_map line_text ls) at so short)

  -- one line more, at the front of what lay past the text so far
  pub line_written : (new : List ℕ) → new ≡ take at out ++ (line_text l ++ drop (length (line_text l)) (drop at out)) → Sofar (day_text d) old new (flat_map line_text more) (at + length (line_text l))
  line_written new e =
      subst (λ q. Sofar (day_text d) old q (flat_map line_text more) (at + length (line_text l))) (sym e)
      (part_written (day_text d) old out (flat_map line_text ls) at so short (line_text l) (flat_map line_text more) (length (line_text l)) (ap (flat_map line_text) is) refl)

pub none_written : (d : Day) (old : List ℕ) → Sofar (day_text d) old old (flat_map line_text (from d due.Day)) 0
unfolding day_text
none_written d old = nothing_yet (day_text d) old

-- a slice of which the part from `at` on was written to
module _ (out piece : List ℕ) (at : ℕ) (inside : at + length piece ≤ length out) where
  abbrev part : List ℕ
  part = take (length out - at) (drop at out)

  part_all : part ≡ drop at out
  part_all = take_rest out at

  pub has_room : leb (length piece) (length part) ≡ true
  has_room = le-leb _ _ (omega (arith, ap length part_all ∙ length-drop at out))

  pub tail_written : (last : List ℕ) → last ≡ cond (leb (length piece) (length part)) (piece ++ drop (length piece) part) part → put_mid at (length out - at) out last ≡ take at out ++ (piece ++ drop (length piece) (drop at out))
  tail_written last is =
      let none : drop (length out - at) (drop at out) ≡ [] = drop_all (length out - at) (drop at out) (omega (arith, length-drop at out)) in
      ap (λ q. take at out ++ (last ++ q)) none ∙ ap (λ q. take at out ++ q) (append-nil last ∙ is ∙ cond-true _ _ _ has_room ∙ ap (λ q. piece ++ drop (length piece) q) part_all)

pub ruleset walking = (step_from, range_next)
