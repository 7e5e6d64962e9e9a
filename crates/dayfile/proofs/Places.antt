-- The lines of a day from any place on. Assumes nothing.
use Rattle.std.proofs.Common.{◌≡◌, ℕ, zero, suc, ◌+◌, ◌-◌, ◌<◌, ◌≤◌, eqb, ltb, List, [], ◌∷◌, ◌++◌, sym, refl, ap, ◌∙◌, subst, ⊎_elim, add-one, arith}
use Rattle.std.proofs.lemmas.List.{append_assoc}
use Rattle.std.proofs.lemmas.Bool.{cond-true, cond-false, lt-ltb, le-ltb, eq-eqb, ne_eqb, cases_lt, cases_eq}
use Rattle.lines.specs.declared.line.Line.{Line}
use Rattle.lines.specs.declared.line.Line.TheVariants as line
use Rattle.dayfile.specs.Days.{Day, stop_at, leg_at, span, stop_line, leg_line, legs_from}
use Rattle.dayfile.specs.Walking.{count, line_due, rows_from, stops_from, from, Range}
use Rattle.dayfile.specs.declared.expectation.Expectation.{Expectation}
use Rattle.dayfile.specs.declared.expectation.Expectation.TheVariants as due
use Rattle.dayfile.specs.Expecting.{after_stop, after_row, after_leg, Follows, day, depot, capacity, drive, travel_budget, serve_budget, demand_budget, stops, stop, leg, end}

-- the leg from i to j is the last from i
abbrev pub Last : ℕ → ℕ → ℕ → Type 0
Last i j n = (k : ℕ) → j < k → k ≤ n → k ≡ i

-- what is due after a leg, by cases
pub after_leg_lem : (i j n : ℕ) (P : Expectation → Type 0) → (j < n → (j + 1 ≡ i → ⊥) → P (due.Leg i (j + 1) n)) → (j + 1 ≡ i → j + 1 < n → P (due.Leg i (j + 2) n)) → (Last i j n → i < n → P (due.Leg (i + 1) 0 n)) → (Last i j n → n ≤ i → P due.End) → P (after_leg i j n)
after_leg_lem i j n P beside past row stop-here =
    let turned : Last i j n → P (after_row i n) = λ l. ⊎_elim (λ h. subst P (sym (cond-true _ _ _ (lt-ltb i n h))) (row l h)) (λ h. subst P (sym (cond-false _ _ _ (le-ltb i n h))) (stop-here l h)) (cases_lt i n) in
    ⊎_elim
    (λ h. subst P (sym (cond-true (ltb j n) _ _ (lt-ltb j n h)))
    (⊎_elim
    (λ e. subst P (sym (cond-true (eqb (j + 1) i) _ _ (eq-eqb (j + 1) i e)))
    (⊎_elim
    (λ g. subst P (sym (cond-true (ltb (j + 1) n) _ _ (lt-ltb (j + 1) n g))) (past e g))
    (λ g. subst P (sym (cond-false (ltb (j + 1) n) _ _ (le-ltb (j + 1) n g))) (turned (λ k a b. omega arith)))
    (cases_lt (j + 1) n)))
    (λ e. subst P (sym (cond-false (eqb (j + 1) i) _ _ (ne_eqb (j + 1) i e))) (beside h e))
    (cases_eq (j + 1) i)))
    (λ h. subst P (sym (cond-false (ltb j n) _ _ (le-ltb j n h))) (turned (λ k a b. absurd (omega arith))))
    (cases_lt j n)

pub after_stop_lem : (k n : ℕ) (P : Expectation → Type 0) → (k < n → P (due.Stop (k + 1) n)) → (n ≤ k → P (due.Leg 0 1 n)) → P (after_stop k n)
after_stop_lem k n P more done =
    ⊎_elim (λ h. subst P (sym (cond-true _ _ _ (lt-ltb k n h))) (more h)) (λ h. subst P (sym (cond-false _ _ _ (le-ltb k n h))) (done h)) (cases_lt k n)

-- a span that begins with what f gives for a
pub span_first : {X : Type 0} (f : ℕ → List X) (a m n : ℕ) → n ≡ m + 1 → span f a n ≡ f a ++ span f (a + 1) m
span_first f a m n e = ap (span f a) (e ∙ add-one m) ∙ ap (λ b. f a ++ span f b m) (sym (add-one a))

no_leg_lem : (d : Day) (i j : ℕ) → i ≡ j → leg_line d i j ≡ []
no_leg_lem d i j e = cond-true _ _ _ (eq-eqb i j e)

a_leg : (d : Day) (i j : ℕ) → (i ≡ j → ⊥) → leg_line d i j ≡ line.Leg i j (leg_at d i j) ∷ []
a_leg d i j e = cond-false _ _ _ (ne_eqb i j e)

span_none : {X : Type 0} (f : ℕ → List X) (a m : ℕ) → ((k : ℕ) → a ≤ k → k < a + m → f k ≡ []) → span f a m ≡ []
span_none f a zero e = refl
span_none f a (suc m) e = (λ i. e a (omega arith) (omega arith) i ++ span f (suc a) m) ∙ span_none f (suc a) m (λ k h g. e k (omega arith) (omega arith))

module _ (d : Day) (n : ℕ) (is : n ≡ count d) where
  -- a stop's line, and those after it
  stop_first : (k : ℕ) → k ≤ n → from d (due.Stop k n) ≡ line.Stop k (stop_at d k) ∷ stops_from d (k + 1) (n - k)
  stop_first k h = ap (λ q. q ++ rows_from d 0 (suc (count d))) (span_first (stop_line d) k (n - k) (suc (count d) - k) (omega arith))

  -- a leg's line, and those after it
  leg_first : (i j : ℕ) → i ≤ n → j ≤ n → (i ≡ j → ⊥) → from d (due.Leg i j n) ≡ line.Leg i j (leg_at d i j) ∷ (span (leg_line d i) (j + 1) (n - j) ++ rows_from d (i + 1) (n - i))
  leg_first i j g h e =
      let row : span (leg_line d i) j (suc (count d) - j) ≡ line.Leg i j (leg_at d i j) ∷ span (leg_line d i) (j + 1) (n - j) = span_first (leg_line d i) j (n - j) (suc (count d) - j) (omega arith) ∙ ap (λ q. q ++ span (leg_line d i) (j + 1) (n - j)) (a_leg d i j e) in
      let left : count d - i ≡ n - i = omega arith in
      (λ x. row x ++ rows_from d (i + 1) (left x))

  -- the first leg of all is that from 0 to 1
  first_leg : rows_from d 0 (suc (count d)) ≡ from d (due.Leg 0 1 n)
  first_leg =
      let size : count d ≡ suc (count d) - 1 = omega arith in
      let all : count d ≡ count d - 0 = omega arith in
      append_assoc (span (leg_line d 0) 1 (count d)) (span (legs_from d) 1 (count d)) (line.End ∷ []) ∙ (λ x. span (leg_line d 0) 1 (size x) ++ rows_from d 1 (all x))

  -- the legs from a place, when all are still to come
  row_first : (i m : ℕ) → i < n → m ≡ n - i → rows_from d (i + 1) m ≡ from d (due.Leg (i + 1) 0 n)
  row_first i m h e =
      let whole : suc (count d) ≡ suc (count d) - 0 = omega arith in
      ap (λ q. q ++ line.End ∷ []) (span_first (legs_from d) (i + 1) (count d - (i + 1)) m (omega arith)) ∙ append_assoc (legs_from d (i + 1)) (span (legs_from d) (i + 1 + 1) (count d - (i + 1))) (line.End ∷ []) ∙ ap (λ k. span (leg_line d (i + 1)) 0 k ++ rows_from d (i + 1 + 1) (count d - (i + 1))) whole

  leg_step : (i j : ℕ) → i ≤ n → j ≤ n → (i ≡ j → ⊥) → span (leg_line d i) (j + 1) (n - j) ++ rows_from d (i + 1) (n - i) ≡ from d (after_leg i j n)
  leg_step i j g h e =
      after_leg_lem i j n (λ q. span (leg_line d i) (j + 1) (n - j) ++ rows_from d (i + 1) (n - i) ≡ from d q)
      (λ a b.
      let size : n - j ≡ suc (count d) - (j + 1) = omega arith in
      let left : n - i ≡ count d - i = omega arith in
      (λ x. span (leg_line d i) (j + 1) (size x) ++ rows_from d (i + 1) (left x)))
      (λ a b.
      let size : suc (count d) - (j + 2) + 1 ≡ n - j = omega arith in
      let next : j + 1 + 1 ≡ j + 2 = omega arith in
      let left : n - i ≡ count d - i = omega arith in
      let row : span (leg_line d i) (j + 1) (n - j) ≡ span (leg_line d i) (j + 2) (suc (count d) - (j + 2)) = span_first (leg_line d i) (j + 1) (suc (count d) - (j + 2)) (n - j) (sym size) ∙ ap (λ q. q ++ span (leg_line d i) (j + 1 + 1) (suc (count d) - (j + 2))) (no_leg_lem d i (j + 1) (sym a)) ∙ ap (λ b. span (leg_line d i) b (suc (count d) - (j + 2))) next in
      (λ x. row x ++ rows_from d (i + 1) (left x)))
      (λ l a. ap (λ q. q ++ rows_from d (i + 1) (n - i)) (row_done l) ∙ row_first i (n - i) a refl)
      (λ l a.
      let none : n - i ≡ 0 = omega arith in
      ap (λ q. q ++ rows_from d (i + 1) (n - i)) (row_done l) ∙ ap (rows_from d (i + 1)) none)
    where
      row_done : Last i j n → span (leg_line d i) (j + 1) (n - j) ≡ []
      row_done l = span_none (leg_line d i) (j + 1) (n - j) (λ k a b. no_leg_lem d i k (sym (l k (omega arith) (omega arith))))

  stop_step : (k : ℕ) → k ≤ n → stops_from d (k + 1) (n - k) ≡ from d (after_stop k n)
  stop_step k h =
      after_stop_lem k n (λ q. stops_from d (k + 1) (n - k) ≡ from d q)
      (λ a. let size : n - k ≡ suc (count d) - (k + 1) = omega arith in ap (stops_from d (k + 1)) size)
      (λ a. let none : n - k ≡ 0 = omega arith in ap (stops_from d (k + 1)) none ∙ first_leg)

-- the day's lines from a place on are its line there, and those from the next place on
pub from_step : {e : Expectation} {l : Line} {next : Expectation} → Follows e l next → (d : Day) → Range e d → from d e ≡ line_due d e ∷ from d next
from_step day d r = refl
from_step depot d r = refl
from_step capacity d r = refl
from_step drive d r = refl
from_step travel_budget d r = refl
from_step serve_budget d r = refl
from_step demand_budget d r = refl
from_step stops d r = let size : count d ≡ suc (count d) - 1 = omega arith in ap (λ k. line.Stops (count d) ∷ stops_from d 1 k) size
from_step (stop {k} {n}) d r = stop_first d n r.0.0 k r.2 ∙ ap (λ q. line.Stop k (stop_at d k) ∷ q) (stop_step d n r.0.0 k r.2)
from_step (leg {i} {j} {n}) d r =
    leg_first d n r.0.0 i j r.1 r.2 r.3 ∙ ap (λ q. line.Leg i j (leg_at d i j) ∷ q) (leg_step d n r.0.0 i j r.1 r.2 r.3)
from_step end d r = refl
