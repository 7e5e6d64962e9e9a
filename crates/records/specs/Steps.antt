-- The steps of a route: one for each of its stops, then one for the depot. Assumes nothing.
use Rattle.std.specs.Prelude.{ℕ, ◌+◌, ◌*◌, Bool, true, ◌&&◌, List, [], ◌∷◌, length, ◌==◌, nat_le, slice_index_or}
use Rattle.records.specs.Limits.{most_stops, stop_records, leg_records}
use Rattle.records.specs.declared.Stop.{Stop}
use Rattle.records.specs.declared.Leg.{Leg}
use Rattle.records.specs.declared.step.Step.{Step}
use Rattle.records.specs.Records.{no_stop, no_leg, window_only}

abbrev pub stop_of : List Stop → ℕ → Stop
stop_of ss k = slice_index_or ss k no_stop

-- the leg from i to j is at 41 × i + j of the table
abbrev pub leg_of : List Leg → ℕ → ℕ → Leg
leg_of ls i j = slice_index_or ls (41 * i + j) no_leg

-- From place i to each stop of a list in turn, and then to the depot. A step carries the leg that leads to its stop, and
-- the stop's record; the last one the depot's opens and closes, and 0 for the rest of its figures.
abbrev pub steps_from : List Stop → List Leg → ℕ → List ℕ → List Step
steps_from ss ls i [] = record { leg = leg_of ls i 0; stop = window_only (stop_of ss 0).opens (stop_of ss 0).closes } ∷ []
steps_from ss ls i (k ∷ ks) = record { leg = leg_of ls i k; stop = stop_of ss k } ∷ steps_from ss ls k ks

-- an empty route has no step
abbrev pub steps_of : List Stop → List Leg → List ℕ → List Step
steps_of ss ls [] = []
steps_of ss ls (k ∷ ks) = steps_from ss ls 0 (k ∷ ks)

-- how many steps a route has
abbrev pub step_count : List ℕ → ℕ
step_count [] = 0
step_count (k ∷ ks) = length (k ∷ ks) + 1

-- every stop of the route is one that the table has
abbrev pub in_table : List ℕ → Bool
in_table [] = true
in_table (k ∷ ks) = nat_le k 40 && in_table ks

-- the tables have their lengths, the route's stops are in them, and there is room for its steps
abbrev pub steps_fit : List Stop → List Leg → List ℕ → ℕ → Bool
steps_fit ss ls ks room = (length ss == 41 && length ls == 1681) && (in_table ks && nat_le (step_count ks) room)

-- the number of a stop that a day may have: 0 is the depot's
abbrev pub is_stop : ℕ → Bool
is_stop k = nat_le 1 k && nat_le k most_stops

-- every number of the route is that of a stop
abbrev pub are_stops : List ℕ → Bool
are_stops [] = true
are_stops (k ∷ ks) = is_stop k && are_stops ks

-- the tables have their lengths
abbrev pub tables_fit : List Stop → List Leg → Bool
tables_fit ss ls = length ss == stop_records && length ls == leg_records
