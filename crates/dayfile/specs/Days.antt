-- A day, what makes it valid, and its text, line by line. Assumes nothing.
use Rattle.std.specs.Prelude.{◌≡◌, ℕ, zero, suc, ◌<◌, ◌≤◌, true, cond, List, [], ◌∷◌, ◌++◌, length, ◌==◌, ◌≢◌}
use Rattle.std.specs.List.{flat_map}
use Rattle.records.specs.Records.{no_stop, no_leg, window_only}
use Rattle.records.specs.Steps.{stop_of, leg_of}
use Rattle.records.specs.declared.Head.{Head}
use Rattle.records.specs.declared.Stop.{Stop}
use Rattle.records.specs.declared.Leg.{Leg}
use Rattle.lines.specs.declared.line.Line.{Line}
use Rattle.lines.specs.declared.line.Line.TheVariants as line
use Rattle.lines.specs.Forms.{line_text}
use Rattle.dayfile.specs.Bounds.{is_time, is_quantity, is_budget, is_count, sound_stop, sound_leg}

-- a day: its head, the stop table, of which record 0 is the depot, and the leg table
pub record Day : Type 0 where
  pub head : Head
  pub stops : List Stop
  pub legs : List Leg

abbrev pub stop_at : Day → ℕ → Stop
stop_at d k = stop_of d.stops k

abbrev pub leg_at : Day → ℕ → ℕ → Leg
leg_at d i j = leg_of d.legs i j

-- The figures that the day's text has are within their bounds, and no window closes before it opens.
pub record Valid (d : Day) : Type 0 where
  pub capacity : is_quantity d.head.capacity ≡ true
  pub drive : is_time d.head.drive ≡ true
  pub travel_budget : is_budget d.head.travel_budget ≡ true
  pub serve_budget : is_budget d.head.serve_budget ≡ true
  pub demand_budget : is_budget d.head.demand_budget ≡ true
  pub count : is_count d.head.stops ≡ true
  pub depot : (is_time (stop_at d 0).opens ≡ true) × (is_time (stop_at d 0).closes ≡ true) × ((stop_at d 0).opens ≤ (stop_at d 0).closes)
  pub stop : (k : ℕ) → 1 ≤ k → k ≤ d.head.stops → (sound_stop (stop_at d k) ≡ true) × ((stop_at d k).opens ≤ (stop_at d k).closes)
  pub leg : (i j : ℕ) → i ≤ d.head.stops → j ≤ d.head.stops → (i ≢ j) → sound_leg (leg_at d i j) ≡ true

-- The tables have their lengths, and every record and figure that the day's text does not have is 0.
pub record Clean (d : Day) : Type 0 where
  pub stop_count : length d.stops ≡ 41
  pub leg_count : length d.legs ≡ 1681
  pub depot : stop_at d 0 ≡ window_only (stop_at d 0).opens (stop_at d 0).closes
  pub spare_stop : (k : ℕ) → d.head.stops < k → stop_at d k ≡ no_stop
  pub no_leg_home : (i : ℕ) → i ≤ 40 → leg_at d i i ≡ no_leg
  pub spare_leg_from : (i j : ℕ) → j ≤ 40 → d.head.stops < i → leg_at d i j ≡ no_leg
  pub spare_leg_to : (i j : ℕ) → j ≤ 40 → d.head.stops < j → leg_at d i j ≡ no_leg

-- what f gives for the n numbers from a on, one after the other
abbrev pub span : {X : Type 0} → (ℕ → List X) → ℕ → ℕ → List X
span f a zero = []
span f a (suc n) = f a ++ span f (suc a) n

abbrev pub head_lines : Day → List Line
head_lines d =
    line.Day ∷ line.Depot (stop_at d 0).opens (stop_at d 0).closes ∷ line.Capacity d.head.capacity ∷ line.Drive d.head.drive ∷ line.TravelBudget d.head.travel_budget ∷ line.ServeBudget d.head.serve_budget ∷ line.DemandBudget d.head.demand_budget ∷ line.Stops d.head.stops ∷ []

abbrev pub stop_line : Day → ℕ → List Line
stop_line d k = line.Stop k (stop_at d k) ∷ []

-- no leg leads from a place to itself
abbrev pub leg_line : Day → ℕ → ℕ → List Line
leg_line d i j = cond (i == j) [] (line.Leg i j (leg_at d i j) ∷ [])

-- the legs from i, to each other place in turn
abbrev pub legs_from : Day → ℕ → List Line
legs_from d i = span (leg_line d i) 0 (suc d.head.stops)

-- The day's lines: the head, stops 1 to N, the legs from each place from 0 to N to each other, and the end.
abbrev pub day_lines : Day → List Line
day_lines d = head_lines d ++ (span (stop_line d) 1 d.head.stops ++ (span (legs_from d) 0 (suc d.head.stops) ++ line.End ∷ []))

unfoldable pub day_text : Day → List ℕ
day_text d = flat_map line_text (day_lines d)
