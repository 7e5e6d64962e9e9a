-- Days that agree with what was read so far. Assumes nothing.
use Rattle.std.proofs.Common.{◌≡◌, ℕ, ◌+◌, ◌*◌, ◌<◌, ◌≤◌, ◌⊎◌, length, sym, refl, ap, ◌∙◌, subst, inl, inr, ⊎_elim, arith}
use Rattle.std.proofs.lemmas.List.{get_or-set_same, get_or-set_other}
use Rattle.std.proofs.lemmas.Bool.{cases_lt, cases_eq, cases_order}
use Rattle.records.specs.declared.Stop.{Stop}
use Rattle.records.specs.declared.Leg.{Leg}
use Rattle.lines.specs.declared.line.Line.{Line}
use Rattle.lines.specs.declared.line.Line.TheVariants as line
use Rattle.dayfile.specs.Bounds.{subject}
use Rattle.records.specs.Records.{no_stop, no_leg, window_only}
use Rattle.dayfile.specs.Days.{Day, stop_at, leg_at}
use Rattle.dayfile.specs.Storing.{put}
use Rattle.dayfile.specs.declared.expectation.Expectation.{Expectation}
use Rattle.dayfile.specs.declared.expectation.Expectation.TheVariants as due
use Rattle.dayfile.specs.Expecting.{subject_due, after_stop, after_leg, Follows, day, depot, capacity, drive, travel_budget, serve_budget, demand_budget, stops, stop, leg, end}
use Rattle.dayfile.specs.Walking.{count, line_due, Range}
use Rattle.dayfile.proofs.Places.{Last, after_leg_lem, after_stop_lem}

-- a leg comes before the leg from i to j
abbrev pub Earlier : ℕ → ℕ → ℕ → ℕ → Type 0
Earlier i j a b = (a < i) ⊎ ((a ≡ i) × (b < j))

-- the leg that is due; after the last one, a leg that no day has
abbrev pub leg_due : Expectation → ℕ → ℕ × ℕ
leg_due due.Day n = (0, 0)
leg_due due.Depot n = (0, 0)
leg_due due.Capacity n = (0, 0)
leg_due due.Drive n = (0, 0)
leg_due due.TravelBudget n = (0, 0)
leg_due due.ServeBudget n = (0, 0)
leg_due due.DemandBudget n = (0, 0)
leg_due due.Stops n = (0, 0)
leg_due (due.Stop k m) n = (0, 0)
leg_due (due.Leg i j m) n = (i, j)
leg_due due.End n = (n + 1, 0)
leg_due due.Nothing n = (n + 1, 0)

-- from the leg that is due to the one due after it, just that leg is passed
pub record Advances (i j n i' j' : ℕ) : Type 0 where
  pub passed : (a b : ℕ) → (a ≡ b → ⊥) → b ≤ n → Earlier i' j' a b → Earlier i j a b ⊎ ((a ≡ i) × (b ≡ j))
  pub still : (a b : ℕ) → Earlier i j a b → Earlier i' j' a b
  pub this : Earlier i' j' i j

pub advances : (i j n : ℕ) → i ≤ n → j ≤ n → (i ≡ j → ⊥) → Advances i j n (leg_due (after_leg i j n) n).0 (leg_due (after_leg i j n) n).1
advances i j n g h ne =
    after_leg_lem i j n (λ q. Advances i j n (leg_due q n).0 (leg_due q n).1)
    (λ a b. beside i j n)
    (λ a b. record {
      passed = λ x y u v. ⊎_elim (λ l. inl (inl l)) (λ e. ⊎_elim (λ l. inl (inr (e.0, l))) (λ m. inr (e.0, ⊎_elim (λ s. s) (λ z. absurd (u (omega arith))) (cases_eq y j))) (cases_lt y j));
      still = λ x y. ⊎_elim inl (λ e. inr (e.0, omega arith));
      this = inr (refl, omega arith);
    })
    (λ l a. row i j n l (i + 1) (omega arith))
    (λ l a. row i j n l (n + 1) (omega arith))
  where
    beside : (i j n : ℕ) → Advances i j n i (j + 1)
    beside i j n = record {
      passed = λ x y u v. ⊎_elim (λ l. inl (inl l)) (λ e. ⊎_elim (λ l. inl (inr (e.0, l))) (λ m. inr (e.0, omega arith)) (cases_lt y j));
      still = λ x y. ⊎_elim inl (λ e. inr (e.0, omega arith));
      this = inr (refl, omega arith);
    }

    row : (i j n : ℕ) → Last i j n → (i' : ℕ) → i' ≡ i + 1 → Advances i j n i' 0
    row i j n l i' is = record {
      passed = λ x y u v. ⊎_elim
          (λ s. ⊎_elim (λ e. ⊎_elim (λ w. inl (inr (e, w))) (λ m. inr (e, ⊎_elim (λ q. q) (λ q. absurd (u (e ∙ sym (l y (omega arith) v)))) (cases_eq y j))) (cases_lt y j)) (⊎_elim (λ w. inl (inl w)) (λ w. absurd (omega arith))) (cases_order x i))
          (λ e. absurd (omega arith));
      still = λ x y. ⊎_elim (λ w. inl (omega arith)) (λ e. inl (omega arith));
      this = inl (omega arith);
    }

abbrev Windows : Day → Day → Type 0
Windows d x = ((stop_at d 0).opens ≡ (stop_at x 0).opens) × ((stop_at d 0).closes ≡ (stop_at x 0).closes)

abbrev StopsTo : ℕ → Day → Day → Type 0
StopsTo k d x = (m : ℕ) → 1 ≤ m → m < k → stop_at d m ≡ stop_at x m

-- the legs of the day d before the one from i to j
abbrev LegsTo : ℕ → ℕ → Day → Day → Type 0
LegsTo i j d x = (a b : ℕ) → (a ≡ b → ⊥) → b ≤ count d → Earlier i j a b → leg_at d a b ≡ leg_at x a b

abbrev Whole : Day → Day → Type 0
Whole d x = Windows d x × (d.head ≡ x.head) × StopsTo (count d + 1) d x × LegsTo (count d + 1) 0 d x

-- the day x has all that was read into d before the place e
abbrev pub Agrees : Expectation → Day → Day → Type 0
Agrees due.Day d x = Unit {0}
Agrees due.Depot d x = Unit {0}
Agrees due.Capacity d x = Windows d x
Agrees due.Drive d x = Windows d x × (d.head.capacity ≡ x.head.capacity)
Agrees due.TravelBudget d x = Windows d x × (d.head.capacity ≡ x.head.capacity) × (d.head.drive ≡ x.head.drive)
Agrees due.ServeBudget d x =
    Windows d x × (d.head.capacity ≡ x.head.capacity) × (d.head.drive ≡ x.head.drive) × (d.head.travel_budget ≡ x.head.travel_budget)
Agrees due.DemandBudget d x =
    Windows d x × (d.head.capacity ≡ x.head.capacity) × (d.head.drive ≡ x.head.drive) × (d.head.travel_budget ≡ x.head.travel_budget) × (d.head.serve_budget ≡ x.head.serve_budget)
Agrees due.Stops d x =
    Windows d x × (d.head.capacity ≡ x.head.capacity) × (d.head.drive ≡ x.head.drive) × (d.head.travel_budget ≡ x.head.travel_budget) × (d.head.serve_budget ≡ x.head.serve_budget) × (d.head.demand_budget ≡ x.head.demand_budget)
Agrees (due.Stop k n) d x = Windows d x × (d.head ≡ x.head) × StopsTo k d x
Agrees (due.Leg i j n) d x = Windows d x × (d.head ≡ x.head) × StopsTo (count d + 1) d x × LegsTo i j d x
Agrees due.End d x = Whole d x
Agrees due.Nothing d x = Whole d x

-- the leg's index tells its places
same_index : (i j a b : ℕ) → j ≤ 40 → b ≤ 40 → 41 * i + j ≡ 41 * a + b → (i ≡ a) × (j ≡ b)
same_index i j a b h g e = ⊎_elim (λ s. (s, omega arith)) (⊎_elim (λ l. absurd (omega arith)) (λ l. absurd (omega arith))) (cases_order i a)

module _ (d : Day) (sized : length d.stops ≡ 41) where
  pub stop_put : (k : ℕ) (s : _) → k ≤ 40 → stop_at (put (line.Stop k s) d) k ≡ s
  stop_put k s h = get_or-set_same d.stops k s no_stop (omega arith)

  pub stop_kept : (k m : ℕ) (s : _) → (m ≡ k → ⊥) → stop_at (put (line.Stop k s) d) m ≡ stop_at d m
  stop_kept k m s ne = get_or-set_other d.stops k m s no_stop ne

  pub depot_put : (o c : ℕ) → stop_at (put (line.Depot o c) d) 0 ≡ window_only o c
  depot_put o c = get_or-set_same d.stops 0 (window_only o c) no_stop (omega arith)

module _ (d : Day) (sized : length d.legs ≡ 1681) where
  pub leg_put : (i j : ℕ) (l : _) → i ≤ 40 → j ≤ 40 → leg_at (put (line.Leg i j l) d) i j ≡ l
  leg_put i j l g h = get_or-set_same d.legs (41 * i + j) l no_leg (omega arith)

  pub leg_kept : (i j a b : ℕ) (l : _) → j ≤ 40 → b ≤ 40 → ((a ≡ i) × (b ≡ j) → ⊥) → leg_at (put (line.Leg i j l) d) a b ≡ leg_at d a b
  leg_kept i j a b l h g ne = get_or-set_other d.legs (41 * i + j) (41 * a + b) l no_leg (λ e. ne (same_index a b i j g h e))

-- what agrees with a day that has one more stop
module _ (d x : Day) (sized : length d.stops ≡ 41) (k : ℕ) (s : Stop) (low : 1 ≤ k) (high : k ≤ 40) where
  stop_forth : StopsTo (k + 1) (put (line.Stop k s) d) x → StopsTo k d x × (stop_at x k ≡ s)
  stop_forth a = (λ m g h. sym (stop_kept d sized k m s (λ e. omega arith)) ∙ a m g (omega arith), sym (a k low (omega arith)) ∙ stop_put d sized k s high)

  stop_back : StopsTo k d x → stop_at x k ≡ s → StopsTo (k + 1) (put (line.Stop k s) d) x
  stop_back a is m g h =
      ⊎_elim
      (λ e. subst (λ q. stop_at (put (line.Stop k s) d) q ≡ stop_at x q) (sym e) (stop_put d sized k s high ∙ sym is))
      (λ e. stop_kept d sized k m s e ∙ a m g (omega arith))
      (cases_eq m k)

  same_window : stop_at (put (line.Stop k s) d) 0 ≡ stop_at d 0
  same_window = stop_kept d sized k 0 s (λ e. omega arith)

-- and with one that has one more leg
module _ (d x : Day) (sized : length d.legs ≡ 1681) (few : count d ≤ 40) (i j : ℕ) (l : Leg) (low : i ≤ count d) (high : j ≤ count d) (ne : i ≡ j → ⊥) (i' j' : ℕ) (on : Advances i j (count d) i' j') where
  other : (a b : ℕ) → Earlier i j a b → (a ≡ i) × (b ≡ j) → ⊥
  other a b e p = ⊎_elim (λ h. omega arith) (λ h. omega arith) e

  leg_forth : LegsTo i' j' (put (line.Leg i j l) d) x → LegsTo i j d x × (leg_at x i j ≡ l)
  leg_forth a = (
    λ u v n h e. sym (leg_kept d sized i j u v l (omega arith) (omega arith) (other u v e)) ∙ a u v n h (on.still u v e),
    sym (a i j ne high on.this) ∙ leg_put d sized i j l (omega arith) (omega arith),
  )

  leg_back : LegsTo i j d x → leg_at x i j ≡ l → LegsTo i' j' (put (line.Leg i j l) d) x
  leg_back a is u v n h e =
      ⊎_elim
      (λ f. leg_kept d sized i j u v l (omega arith) (omega arith) (other u v f) ∙ a u v n h f)
      (λ p. subst (λ q. leg_at (put (line.Leg i j l) d) q v ≡ leg_at x q v) (sym p.0) (subst (λ q. leg_at (put (line.Leg i j l) d) i q ≡ leg_at x i q) (sym p.1) (leg_put d sized i j l (omega arith) (omega arith) ∙ sym is)))
      (on.passed u v n h e)

-- what agrees where a leg or the end is due
LegPart : Expectation → Day → Day → Type 0
LegPart q d x = Windows d x × (d.head ≡ x.head) × StopsTo (count d + 1) d x × LegsTo (leg_due q (count d)).0 (leg_due q (count d)).1 d x

leg_part : (i j n : ℕ) (d x : Day) → Agrees (after_leg i j n) d x → LegPart (after_leg i j n) d x
unfolding LegPart
leg_part i j n d x = after_leg_lem i j n (λ q. Agrees q d x → LegPart q d x) (λ u v a. a) (λ u v a. a) (λ u v a. a) (λ u v a. a)

from_leg_part : (i j n : ℕ) (d x : Day) → LegPart (after_leg i j n) d x → Agrees (after_leg i j n) d x
unfolding LegPart
from_leg_part i j n d x = after_leg_lem i j n (λ q. LegPart q d x → Agrees q d x) (λ u v a. a) (λ u v a. a) (λ u v a. a) (λ u v a. a)

-- what agrees where a stop or the first leg is due
stop_part : (k n : ℕ) (d x : Day) → k ≤ n → n ≡ count d → Agrees (after_stop k n) d x → Windows d x × (d.head ≡ x.head) × StopsTo (k + 1) d x
stop_part k n d x h is =
    after_stop_lem k n (λ q. Agrees q d x → Windows d x × (d.head ≡ x.head) × StopsTo (k + 1) d x) (λ u a. a)
    (λ u a. (a.0, a.1, λ m g f. a.2 m g (omega arith)))

from_stop_part : (k n : ℕ) (d x : Day) → k ≤ n → n ≡ count d → Windows d x × (d.head ≡ x.head) × StopsTo (k + 1) d x → Agrees (after_stop k n) d x
from_stop_part k n d x h is =
    after_stop_lem k n (λ q. Windows d x × (d.head ≡ x.head) × StopsTo (k + 1) d x → Agrees q d x) (λ u a. a)
    (λ u a. (a.0, a.1, λ m g f. a.2 m g (omega arith), λ v w n h e. ⊎_elim (λ y. absurd (omega arith)) (λ y. absurd (n (omega arith))) e))

-- a day that agrees after a line was read agreed before it, and has that line there
abbrev pub Forth : Expectation → Line → Expectation → Type 0
Forth e l next = (d x : Day) → length d.stops ≡ 41 → length d.legs ≡ 1681 → Range e d → subject l ≡ subject_due e → Agrees next (put l d) x → Agrees e d x × (line_due x e ≡ l)

-- and the other way round
abbrev pub Back : Expectation → Line → Expectation → Type 0
Back e l next = (d x : Day) → length d.stops ≡ 41 → length d.legs ≡ 1681 → Range e d → subject l ≡ subject_due e → Agrees e d x → line_due x e ≡ l → Agrees next (put l d) x

pub forth : {e : Expectation} {l : Line} {next : Expectation} → Follows e l next → Forth e l next
unfolding LegPart
forth day d x s g r t a = (tt, refl)
forth (depot {o} {c}) d x s g r t a =
    let is = depot_put d s o c in
    (tt, (λ i. line.Depot ((sym a.0 ∙ ap (λ q. q.opens) is) i) ((sym a.1 ∙ ap (λ q. q.closes) is) i)))
forth capacity d x s g r t a = (a.0, ap line.Capacity (sym a.1))
forth drive d x s g r t a = ((a.0, a.1), ap line.Drive (sym a.2))
forth travel_budget d x s g r t a = ((a.0, a.1, a.2), ap line.TravelBudget (sym a.3))
forth serve_budget d x s g r t a = ((a.0, a.1, a.2, a.3), ap line.ServeBudget (sym a.4))
forth demand_budget d x s g r t a = ((a.0, a.1, a.2, a.3, a.4), ap line.DemandBudget (sym a.5))
forth stops d x s g r t a = (
  (a.0, ap (λ h. h.capacity) a.1, ap (λ h. h.drive) a.1, ap (λ h. h.travel_budget) a.1, ap (λ h. h.serve_budget) a.1, ap (λ h. h.demand_budget) a.1),
  ap (λ h. line.Stops h.stops) (sym a.1),
)
forth (stop {k} {n} {number} {s}) d x sz g r t a =
    let is : number ≡ k = cc in
    let b = subst (λ m. Agrees (after_stop k n) (put (line.Stop m s) d) x) is a in
    let p = stop_part k n (put (line.Stop k s) d) x r.2 r.0.0 b in
    let w = same_window d x sz k s r.1 (omega arith) in
    let q = stop_forth d x sz k s r.1 (omega arith) p.2 in
    (((sym (ap (λ y. y.opens) w) ∙ p.0.0, sym (ap (λ y. y.closes) w) ∙ p.0.1), p.1, q.0), (λ i. line.Stop (sym is i) (q.1 i)))
forth (leg {i} {j} {n} {u} {v} {l}) d x sz g r t a =
    let is : u ≡ i = cc in
    let js : v ≡ j = cc in
    let b = subst (λ m. Agrees (after_leg i j n) (put (line.Leg m j l) d) x) is (subst (λ m. Agrees (after_leg i j n) (put (line.Leg u m l) d) x) js a) in
    let p = leg_part i j n (put (line.Leg i j l) d) x b in
    let on = subst (λ m. Advances i j m (leg_due (after_leg i j n) m).0 (leg_due (after_leg i j n) m).1) r.0.0 (advances i j n r.1 r.2 r.3) in
    let q = leg_forth d x g (omega arith) i j l (omega arith) (omega arith) r.3 _ _ on p.3 in
    ((p.0, p.1, p.2, q.0), (λ y. line.Leg (sym is y) (sym js y) (q.1 y)))
forth end d x s g r t a = (a, refl)

pub back : {e : Expectation} {l : Line} {next : Expectation} → Follows e l next → Back e l next
unfolding LegPart
back day d x s g r t a is = tt
back (depot {o} {c}) d x s g r t a is =
    let put-there = depot_put d s o c in
    let os : (stop_at x 0).opens ≡ o = cc in
    let cs : (stop_at x 0).closes ≡ c = cc in
    (ap (λ q. q.opens) put-there ∙ sym os, ap (λ q. q.closes) put-there ∙ sym cs)
back (capacity {q}) d x s g r t a is = (a, (let e : x.head.capacity ≡ q = cc in sym e))
back (drive {q}) d x s g r t a is = (a.0, a.1, (let e : x.head.drive ≡ q = cc in sym e))
back (travel_budget {q}) d x s g r t a is = (a.0, a.1, a.2, (let e : x.head.travel_budget ≡ q = cc in sym e))
back (serve_budget {q}) d x s g r t a is = (a.0, a.1, a.2, a.3, (let e : x.head.serve_budget ≡ q = cc in sym e))
back (demand_budget {q}) d x s g r t a is = (a.0, a.1, a.2, a.3, a.4, (let e : x.head.demand_budget ≡ q = cc in sym e))
back (stops {n}) d x s g r t a is =
    let e : x.head.stops ≡ n = cc in (
      a.0,
      (λ i. record { capacity = a.1 i; drive = a.2 i; travel_budget = a.3 i; serve_budget = a.4 i; demand_budget = a.5 i; stops = sym e i }),
      λ m h f. absurd (omega arith),
    )
back (stop {k} {n} {number} {s}) d x sz g r t a is =
    let same : number ≡ k = cc in
    let there : stop_at x k ≡ s = cc in
    let w = same_window d x sz k s r.1 (omega arith) in
    subst (λ m. Agrees (after_stop k n) (put (line.Stop m s) d) x) (sym same)
    (from_stop_part k n (put (line.Stop k s) d) x r.2 r.0.0 ((ap (λ y. y.opens) w ∙ a.0.0, ap (λ y. y.closes) w ∙ a.0.1), a.1, stop_back d x sz k s r.1 (omega arith) a.2 there))
back (leg {i} {j} {n} {u} {v} {l}) d x sz g r t a is =
    let same : u ≡ i = cc in
    let too : v ≡ j = cc in
    let there : leg_at x i j ≡ l = cc in
    let on = subst (λ m. Advances i j m (leg_due (after_leg i j n) m).0 (leg_due (after_leg i j n) m).1) r.0.0 (advances i j n r.1 r.2 r.3) in
    subst (λ m. Agrees (after_leg i j n) (put (line.Leg m v l) d) x) (sym same)
    (subst (λ m. Agrees (after_leg i j n) (put (line.Leg i m l) d) x) (sym too)
    (from_leg_part i j n (put (line.Leg i j l) d) x (a.0, a.1, a.2, leg_back d x g (omega arith) i j l (omega arith) (omega arith) r.3 _ _ on a.3 there)))
back end d x s g r t a is = a
