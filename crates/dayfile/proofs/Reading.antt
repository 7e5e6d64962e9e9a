-- What is known of a text of which some lines were read. Assumes nothing.
use Rattle.std.proofs.Common.{◌≡◌, ℕ, zero, suc, List, [], ◌∷◌, ◌+◌, ◌*◌, ◌<◌, ◌≤◌, true, leb, ◌⊎◌, length, get_or, set, sym, refl, ap, ◌∙◌, subst, inl, inr, ⊎_elim, arith}
use Rattle.std.proofs.lemmas.List.{get_or-set_other, length-set}
use Rattle.std.proofs.lemmas.Bool.{and_parts, and_from, leb-true}
use Rattle.records.specs.declared.Head.{Head}
use Rattle.records.specs.declared.Stop.{Stop}
use Rattle.lines.specs.declared.line.Line.{Line}
use Rattle.lines.specs.declared.line.Line.TheVariants as line
use Rattle.dayfile.specs.Bounds.{is_time, is_quantity, is_budget, sound_stop, sound_leg, within, ordered, subject}
use Rattle.records.specs.Records.{no_stop, no_leg, window_only}
use Rattle.dayfile.specs.Days.{Day, stop_at, leg_at}
use Rattle.dayfile.specs.Storing.{day_of, put}
use Rattle.dayfile.specs.declared.expectation.Expectation.{Expectation}
use Rattle.dayfile.specs.declared.expectation.Expectation.TheVariants as due
use Rattle.dayfile.specs.Expecting.{subject_due, after_stop, after_leg, Follows, day, depot, capacity, drive, travel_budget, serve_budget, demand_budget, stops, stop, leg, end}
use Rattle.dayfile.specs.Walking.{count, Range}
use Rattle.dayfile.proofs.Places.{after_leg_lem, after_stop_lem}
use Rattle.dayfile.proofs.Agreeing.{Agrees, Earlier, leg_due, Advances, advances, stop_kept, depot_put, leg_kept}

-- what holds of each element holds after a write of such a one
kept_by_set : {X : Type 0} (P : X → Type 0) (xs : List X) (i k : ℕ) (x d : X) → P x → P (get_or xs k d) → P (get_or (set xs i x) k d)
kept_by_set P [] i k x d p q = q
kept_by_set P (y ∷ xs) zero zero x d p q = p
kept_by_set P (y ∷ xs) zero (suc k) x d p q = q
kept_by_set P (y ∷ xs) (suc i) zero x d p q = q
kept_by_set P (y ∷ xs) (suc i) (suc k) x d p q = kept_by_set P xs i k x d p q

-- every figure of a day's head is within its bounds, but the count of stops
pub record SoundHead (h : Head) : Type 0 where
  pub capacity : is_quantity h.capacity ≡ true
  pub drive : is_time h.drive ≡ true
  pub travel_budget : is_budget h.travel_budget ≡ true
  pub serve_budget : is_budget h.serve_budget ≡ true
  pub demand_budget : is_budget h.demand_budget ≡ true

abbrev StopSound : Stop → Type 0
StopSound s = (sound_stop s ≡ true) × (s.opens ≤ s.closes)

-- every figure that a day holds is within its bounds, but the count of stops
pub record Sound (d : Day) : Type 0 where
  pub head : SoundHead d.head
  pub stop_count : length d.stops ≡ 41
  pub leg_count : length d.legs ≡ 1681
  pub stop : (k : ℕ) → StopSound (stop_at d k)
  pub leg : (k : ℕ) → sound_leg (get_or d.legs k no_leg) ≡ true

with_head : {d : Day} (h : Head) → SoundHead h → Sound d → Sound (day_of h d.stops d.legs)
with_head h p s = record { head = p; stop_count = s.stop_count; leg_count = s.leg_count; stop = s.stop; leg = s.leg }

with_stop : {d : Day} (k : ℕ) (x : Stop) → StopSound x → Sound d → Sound (day_of d.head (set d.stops k x) d.legs)
with_stop {d} k x p s = record { head = s.head; stop_count = length-set d.stops k x ∙ s.stop_count; leg_count = s.leg_count; stop = λ m. kept_by_set StopSound d.stops k m x no_stop p (s.stop m); leg = s.leg }

pub sound_put : (l : Line) (d : Day) → within l ≡ true → ordered l ≡ true → Sound d → Sound (put l d)
sound_put line.Day d w o s = s
sound_put (line.Depot opens closes) d w o s = with_stop 0 (window_only opens closes) (and_from _ _ w refl, leb-true opens closes o) s
sound_put (line.Capacity n) d w o s = let h = s.head in with_head _ (record { capacity = w; drive = h.drive; travel_budget = h.travel_budget; serve_budget = h.serve_budget; demand_budget = h.demand_budget }) s
sound_put (line.Drive n) d w o s = let h = s.head in with_head _ (record { capacity = h.capacity; drive = w; travel_budget = h.travel_budget; serve_budget = h.serve_budget; demand_budget = h.demand_budget }) s
sound_put (line.TravelBudget n) d w o s = let h = s.head in with_head _ (record { capacity = h.capacity; drive = h.drive; travel_budget = w; serve_budget = h.serve_budget; demand_budget = h.demand_budget }) s
sound_put (line.ServeBudget n) d w o s = let h = s.head in with_head _ (record { capacity = h.capacity; drive = h.drive; travel_budget = h.travel_budget; serve_budget = w; demand_budget = h.demand_budget }) s
sound_put (line.DemandBudget n) d w o s = let h = s.head in with_head _ (record { capacity = h.capacity; drive = h.drive; travel_budget = h.travel_budget; serve_budget = h.serve_budget; demand_budget = w }) s
sound_put (line.Stops n) d w o s = let h = s.head in with_head _ (record { capacity = h.capacity; drive = h.drive; travel_budget = h.travel_budget; serve_budget = h.serve_budget; demand_budget = h.demand_budget }) s
sound_put (line.Stop number x) d w o s = with_stop number x (w, leb-true x.opens x.closes o) s
sound_put (line.Leg i j x) d w o s = record { head = s.head; stop_count = s.stop_count; leg_count = length-set d.legs (41 * i + j) x ∙ s.leg_count; stop = s.stop; leg = λ k. kept_by_set (λ q. sound_leg q ≡ true) d.legs (41 * i + j) k x no_leg (and_parts _ _ w).1 (s.leg k) }
sound_put line.End d w o s = s

-- the stop that is due; after the last one, a stop that no day has
abbrev stop_due : Expectation → ℕ → ℕ
stop_due due.Day n = 1
stop_due due.Depot n = 1
stop_due due.Capacity n = 1
stop_due due.Drive n = 1
stop_due due.TravelBudget n = 1
stop_due due.ServeBudget n = 1
stop_due due.DemandBudget n = 1
stop_due due.Stops n = 1
stop_due (due.Stop k m) n = k
stop_due (due.Leg i j m) n = n + 1
stop_due due.End n = n + 1
stop_due due.Nothing n = n + 1

-- stop k and those after it, and the leg from i to j and those after it, are not filled, nor what no line fills
pub record ZerosFrom (k i j : ℕ) (d : Day) : Type 0 where
  pub depot : stop_at d 0 ≡ window_only (stop_at d 0).opens (stop_at d 0).closes
  pub stop : (m : ℕ) → k ≤ m → stop_at d m ≡ no_stop
  pub leg : (a b : ℕ) → b ≤ 40 → (a ≡ b) ⊎ ((count d < b) ⊎ (Earlier i j a b → ⊥)) → leg_at d a b ≡ no_leg

abbrev pub Zeros : Expectation → Day → Type 0
Zeros e d = ZerosFrom (stop_due e (count d)) (leg_due e (count d)).0 (leg_due e (count d)).1 d

-- no leg is before the first
none_earlier : (a b : ℕ) → Earlier 0 0 a b → ⊥
none_earlier a b e = ⊎_elim (λ h. omega arith) (λ h. omega arith) e

-- before the legs are due, none is filled
legs_later : {k k' i j : ℕ} {d d' : Day} → d'.legs ≡ d.legs → ZerosFrom k 0 0 d → (stop_at d' 0 ≡ window_only (stop_at d' 0).opens (stop_at d' 0).closes) → ((m : ℕ) → k' ≤ m → stop_at d' m ≡ no_stop) → ZerosFrom k' i j d'
legs_later {d = d} same z first later = record { depot = first; stop = later; leg = λ a b h c. ap (λ l. get_or l (41 * a + b) no_leg) same ∙ z.leg a b h (inr (inr (none_earlier a b))) }

pub zeros_put : {e : Expectation} {l : Line} {next : Expectation} → Follows e l next → (d : Day) → Sound d → Range e d → subject l ≡ subject_due e → Zeros e d → Zeros next (put l d)
zeros_put day d s r t z = z
zeros_put (depot {o} {c}) d s r t z =
    let is = depot_put d s.stop_count o c in
    legs_later refl z (is ∙ (λ i. window_only (sym is i).opens (sym is i).closes)) (λ m h. get_or-set_other d.stops 0 m (window_only o c) no_stop (λ e. omega arith) ∙ z.stop m h)
zeros_put capacity d s r t z = legs_later refl z z.depot z.stop
zeros_put drive d s r t z = legs_later refl z z.depot z.stop
zeros_put travel_budget d s r t z = legs_later refl z z.depot z.stop
zeros_put serve_budget d s r t z = legs_later refl z z.depot z.stop
zeros_put demand_budget d s r t z = legs_later refl z z.depot z.stop
zeros_put stops d s r t z = legs_later refl z z.depot z.stop
zeros_put (stop {k} {n} {number} {s = x}) d s r t z =
    let same : number ≡ k = cc in
    let w = stop_kept d s.stop_count k 0 x (λ e. omega arith) in
    let later : ((m : ℕ) → stop_due (after_stop k n) (count d) ≤ m → k < m) = λ m. after_stop_lem k n (λ q. stop_due q (count d) ≤ m → k < m) (λ a b. omega arith) (λ a b. omega arith) in
    subst (λ m. Zeros (after_stop k n) (put (line.Stop m x) d)) (sym same)
    (legs_later refl z (w ∙ z.depot ∙ (λ i. window_only (sym w i).opens (sym w i).closes)) (λ m h. let g = later m h in stop_kept d s.stop_count k m x (λ e. omega arith) ∙ z.stop m (omega arith)))
zeros_put (leg {i} {j} {n} {u} {v} {l}) d s r t z =
    let same : u ≡ i = cc in
    let too : v ≡ j = cc in
    let all : stop_due (after_leg i j n) (count d) ≡ count d + 1 = after_leg_lem i j n (λ q. stop_due q (count d) ≡ count d + 1) (λ a b. refl) (λ a b. refl) (λ a b. refl) (λ a b. refl) in
    let on = subst (λ m. Advances i j m (leg_due (after_leg i j n) m).0 (leg_due (after_leg i j n) m).1) r.0.0 (advances i j n r.1 r.2 r.3) in
    subst (λ m. Zeros (after_leg i j n) (put (line.Leg m v l) d)) (sym same)
    (subst (λ m. Zeros (after_leg i j n) (put (line.Leg i m l) d)) (sym too)
    (record {
      depot = z.depot;
      stop = λ m h. z.stop m (omega arith);
      leg = λ a b h c.
          leg_kept d s.leg_count i j a b l (omega arith) h (λ p. ⊎_elim (λ e. r.3 (omega arith)) (⊎_elim (λ e. omega arith) (λ e. e (subst (λ q. Earlier (leg_due (after_leg i j n) (count d)).0 (leg_due (after_leg i j n) (count d)).1 q b) (sym p.0) (subst (λ q. Earlier (leg_due (after_leg i j n) (count d)).0 (leg_due (after_leg i j n) (count d)).1 i q) (sym p.1) on.this)))) c) ∙ z.leg a b h (⊎_elim inl (⊎_elim (λ e. inr (inl e)) (λ e. inr (inr (λ f. e (on.still a b f))))) c);
    }))
zeros_put end d s r t z = z

pub range_put : {e : Expectation} {l : Line} {next : Expectation} → Follows e l next → (d : Day) → within l ≡ true → Range e d → Range next (put l d)
range_put day d w r = tt
range_put depot d w r = tt
range_put capacity d w r = tt
range_put drive d w r = tt
range_put travel_budget d w r = tt
range_put serve_budget d w r = tt
range_put demand_budget d w r = tt
range_put (stops {n}) d w r = let p = and_parts (leb 1 n) (leb n 40) w in let low = leb-true 1 n p.0 in ((refl, low, leb-true n 40 p.1), omega arith, low)
range_put (stop {k} {n} {number} {s}) d w r =
    after_stop_lem k n (λ q. Range q (put (line.Stop number s) d)) (λ a. (r.0, omega arith, omega arith)) (λ a. (r.0, omega arith, r.0.1, λ e. omega arith))
range_put (leg {i} {j} {n} {u} {v} {l}) d w r =
    after_leg_lem i j n (λ q. Range q (put (line.Leg u v l) d))
    (λ a b. (r.0, r.1, omega arith, λ e. b (sym e)))
    (λ a b. (r.0, r.1, omega arith, λ e. omega arith))
    (λ a b. (r.0, omega arith, omega arith, λ e. omega arith))
    (λ a b. (omega arith, omega arith))
range_put end d w r = r

-- whether a place is in range hangs on the count of stops alone
pub range_cong : (e : Expectation) (d x : Day) → count d ≡ count x → Range e d → Range e x
range_cong due.Day d x same r = tt
range_cong due.Depot d x same r = tt
range_cong due.Capacity d x same r = tt
range_cong due.Drive d x same r = tt
range_cong due.TravelBudget d x same r = tt
range_cong due.ServeBudget d x same r = tt
range_cong due.DemandBudget d x same r = tt
range_cong due.Stops d x same r = tt
range_cong (due.Stop k n) d x same r = ((r.0.0 ∙ same, r.0.1, r.0.2), r.1, r.2)
range_cong (due.Leg i j n) d x same r = ((r.0.0 ∙ same, r.0.1, r.0.2), r.1, r.2, r.3)
range_cong due.End d x same r = (omega arith, omega arith)
range_cong due.Nothing d x same r = (omega arith, omega arith)

pub range_of : (e : Expectation) (d x : Day) → Range e d → Agrees e d x → Range e x
range_of due.Day d x r a = tt
range_of due.Depot d x r a = tt
range_of due.Capacity d x r a = tt
range_of due.Drive d x r a = tt
range_of due.TravelBudget d x r a = tt
range_of due.ServeBudget d x r a = tt
range_of due.DemandBudget d x r a = tt
range_of due.Stops d x r a = tt
range_of (due.Stop k n) d x r a = range_cong (due.Stop k n) d x (ap (λ h. h.stops) a.1) r
range_of (due.Leg i j n) d x r a = range_cong (due.Leg i j n) d x (ap (λ h. h.stops) a.1) r
range_of due.End d x r a = range_cong due.End d x (ap (λ h. h.stops) a.1) r
range_of due.Nothing d x r a = range_cong due.Nothing d x (ap (λ h. h.stops) a.1) r
