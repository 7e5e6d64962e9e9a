-- What stands at each place of a valid day, and a valid day that has what was read so far. Assumes nothing.
use Rattle.std.proofs.Common.{◌≡◌, ℕ, ◌+◌, ◌*◌, ◌<◌, ◌≤◌, true, leb, refl, arith}
use Rattle.std.proofs.lemmas.Bool.{and_parts, and_from, leb-true, le-leb}
use Rattle.lines.specs.declared.line.Line.{Line}
use Rattle.lines.specs.declared.line.Line.TheVariants as line
use Rattle.lines.specs.Forms.{InForm}
use Rattle.dayfile.specs.Bounds.{is_time, is_quantity, is_count, within, ordered, subject}
use Rattle.dayfile.specs.Days.{Day, Valid}
use Rattle.dayfile.specs.Storing.{put, Storable}
use Rattle.dayfile.specs.Walking.{count, line_due, Range}
use Rattle.dayfile.specs.declared.expectation.Expectation.{Expectation}
use Rattle.dayfile.specs.declared.expectation.Expectation.TheVariants as due
use Rattle.dayfile.specs.Expecting.{subject_due, Follows, day, depot, capacity, drive, travel_budget, serve_budget, demand_budget, stops, stop, leg, end}
use Rattle.dayfile.proofs.Agreeing.{Agrees}
use Rattle.dayfile.proofs.Reading.{Sound, sound_put}

-- what a place is followed by
pub leads : (e : Expectation) (x : Day) → (e ≡ due.Nothing → ⊥) → (next : Expectation) × Follows e (line_due x e) next
leads due.Day x n = (_, day)
leads due.Depot x n = (_, depot)
leads due.Capacity x n = (_, capacity)
leads due.Drive x n = (_, drive)
leads due.TravelBudget x n = (_, travel_budget)
leads due.ServeBudget x n = (_, serve_budget)
leads due.DemandBudget x n = (_, demand_budget)
leads due.Stops x n = (_, stops)
leads (due.Stop k m) x n = (_, stop)
leads (due.Leg i j m) x n = (_, leg)
leads due.End x n = (_, end)
leads due.Nothing x n = absurd (n refl)

-- a number within a bound of six digits is in form
small : (n m : ℕ) → leb n m ≡ true → m < 1000000 → n < 1000000
small n m e h = omega (arith, leb-true n m e)

-- the numbers of a line within bounds are in form
pub in_form_lem : (l : Line) → within l ≡ true → Storable l → InForm l
in_form_lem line.Day w s = tt
in_form_lem (line.Depot o c) w s = let p = and_parts _ _ w in (small o 100000 p.0 (omega arith), (small c 100000 p.1 (omega arith), tt))
in_form_lem (line.Capacity n) w s = (small n 10000 w (omega arith), tt)
in_form_lem (line.Drive n) w s = (small n 100000 w (omega arith), tt)
in_form_lem (line.TravelBudget n) w s = (small n 8 w (omega arith), tt)
in_form_lem (line.ServeBudget n) w s = (small n 8 w (omega arith), tt)
in_form_lem (line.DemandBudget n) w s = (small n 8 w (omega arith), tt)
in_form_lem (line.Stops n) w s = (small n 40 (and_parts _ _ w).1 (omega arith), tt)
in_form_lem (line.Stop n x) w s =
    let p = and_parts _ _ w in
    let q = and_parts _ _ p.1 in
    let r = and_parts _ _ q.1 in
    let t = and_parts _ _ r.1 in
    let time : ((m : ℕ) → is_time m ≡ true → m < 1000000) = λ m e. small m 100000 e (omega arith) in
    let crates : ((m : ℕ) → is_quantity m ≡ true → m < 1000000) = λ m e. small m 10000 e (omega arith) in (
      omega arith,
      (time _ (and_parts _ _ p.0).0, (time _ (and_parts _ _ p.0).1, (time _ (and_parts _ _ q.0).0, (time _ (and_parts _ _ q.0).1, (crates _ (and_parts _ _ r.0).0, (crates _ (and_parts _ _ r.0).1, (crates _ (and_parts _ _ t.0).0, (crates _ (and_parts _ _ t.0).1, (small _ 1 t.1 (omega arith), tt))))))))),
    )
in_form_lem (line.Leg i j l) w s =
    let p = and_parts _ _ w in
    let q = and_parts _ _ p.0 in
    let r = and_parts _ _ p.1 in
    (small i 40 q.0 (omega arith), (small j 40 q.1 (omega arith), (small _ 100000 r.0 (omega arith), (small _ 100000 r.1 (omega arith), tt))))
in_form_lem line.End w s = tt

-- a line of a valid day passes where it is due
abbrev pub Fits : Line → Expectation → Type 0
Fits l e = (within l ≡ true) × (subject l ≡ subject_due e) × (ordered l ≡ true) × Storable l

pub fits : (e : Expectation) (x : Day) → Valid x → Range e x → Fits (line_due x e) e
fits due.Day x v r = (refl, refl, refl, tt)
fits due.Depot x v r = let p = v.depot in (and_from _ _ p.0 p.1, refl, le-leb _ _ p.2, tt)
fits due.Capacity x v r = (v.capacity, refl, refl, tt)
fits due.Drive x v r = (v.drive, refl, refl, tt)
fits due.TravelBudget x v r = (v.travel_budget, refl, refl, tt)
fits due.ServeBudget x v r = (v.serve_budget, refl, refl, tt)
fits due.DemandBudget x v r = (v.demand_budget, refl, refl, tt)
fits due.Stops x v r = (v.count, refl, refl, tt)
fits (due.Stop k m) x v r = let p = v.stop k r.1 (omega arith) in (p.0, refl, le-leb _ _ p.1, omega arith)
fits (due.Leg i j m) x v r = (and_from _ _ (and_from _ _ (le-leb i 40 (omega arith)) (le-leb j 40 (omega arith))) (v.leg i j (omega arith) (omega arith) r.3), refl, refl, (omega arith, omega arith))
fits due.End x v r = (refl, refl, refl, tt)
fits due.Nothing x v r = (refl, refl, refl, tt)

-- a day whose figures are sound and whose count of stops is one is valid
valid : (d : Day) → Sound d → is_count (count d) ≡ true → Valid d
valid d s n = record {
  capacity = s.head.capacity;
  drive = s.head.drive;
  travel_budget = s.head.travel_budget;
  serve_budget = s.head.serve_budget;
  demand_budget = s.head.demand_budget;
  count = n;
  depot = let p = s.stop 0 in let q = and_parts _ _ (and_parts _ _ p.0).0 in (q.0, q.1, p.1);
  stop = λ k a b. s.stop k;
  leg = λ i j a b c. s.leg (41 * i + j);
}

-- a valid day that has what was read: as long as no count of stops was read, it has one stop
abbrev pub filled_up : Expectation → Day → Day
filled_up due.Day d = put (line.Stops 1) d
filled_up due.Depot d = put (line.Stops 1) d
filled_up due.Capacity d = put (line.Stops 1) d
filled_up due.Drive d = put (line.Stops 1) d
filled_up due.TravelBudget d = put (line.Stops 1) d
filled_up due.ServeBudget d = put (line.Stops 1) d
filled_up due.DemandBudget d = put (line.Stops 1) d
filled_up due.Stops d = put (line.Stops 1) d
filled_up (due.Stop k n) d = d
filled_up (due.Leg i j n) d = d
filled_up due.End d = d
filled_up due.Nothing d = d

one_stop : (d : Day) → Sound d → Valid (put (line.Stops 1) d)
one_stop d s = valid (put (line.Stops 1) d) (sound_put (line.Stops 1) d refl refl s) refl

as_read : (d : Day) → Sound d → 1 ≤ count d → count d ≤ 40 → Valid d
as_read d s low high = valid d s (and_from _ _ (le-leb 1 (count d) low) (le-leb (count d) 40 high))

pub filled-valid : (e : Expectation) (d : Day) → Sound d → Range e d → Valid (filled_up e d)
filled-valid due.Day d s r = one_stop d s
filled-valid due.Depot d s r = one_stop d s
filled-valid due.Capacity d s r = one_stop d s
filled-valid due.Drive d s r = one_stop d s
filled-valid due.TravelBudget d s r = one_stop d s
filled-valid due.ServeBudget d s r = one_stop d s
filled-valid due.DemandBudget d s r = one_stop d s
filled-valid due.Stops d s r = one_stop d s
filled-valid (due.Stop k n) d s r = as_read d s (omega arith) (omega arith)
filled-valid (due.Leg i j n) d s r = as_read d s (omega arith) (omega arith)
filled-valid due.End d s r = as_read d s r.0 r.1
filled-valid due.Nothing d s r = as_read d s r.0 r.1

pub filled_agrees : (e : Expectation) (d : Day) → Agrees e d (filled_up e d)
filled_agrees due.Day d = tt
filled_agrees due.Depot d = tt
filled_agrees due.Capacity d = (refl, refl)
filled_agrees due.Drive d = ((refl, refl), refl)
filled_agrees due.TravelBudget d = ((refl, refl), refl, refl)
filled_agrees due.ServeBudget d = ((refl, refl), refl, refl, refl)
filled_agrees due.DemandBudget d = ((refl, refl), refl, refl, refl, refl)
filled_agrees due.Stops d = ((refl, refl), refl, refl, refl, refl, refl)
filled_agrees (due.Stop k n) d = ((refl, refl), refl, λ m a b. refl)
filled_agrees (due.Leg i j n) d = ((refl, refl), refl, (λ m a b. refl), λ a b c h f. refl)
filled_agrees due.End d = ((refl, refl), refl, (λ m a b. refl), λ a b c h f. refl)
filled_agrees due.Nothing d = ((refl, refl), refl, (λ m a b. refl), λ a b c h f. refl)
