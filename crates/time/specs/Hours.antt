-- The hour of leaving under time windows: what a step with its marks makes of it. Assumes nothing.
use Rattle.std.specs.Prelude.{ℕ, ◌+◌, max, Bool, ◌&&◌, List, [], ◌∷◌, nat_le, slice_index}
use Rattle.records.specs.declared.step.Step.{Step}
use Rattle.resource.specs.Rows.{Extension}
use Rattle.resource.specs.Scenarios.{Accepts}
use Rattle.resource.specs.Days.{throughout}
use Rattle.resource.specs.Figures.{travel, serve}
use Rattle.resource.specs.Words.{ceiling, recursion}

-- the latest hour at which a route may begin
abbrev pub latest_beginning : ℕ
latest_beginning = 100000

-- the hour in a row of one word
abbrev pub hour_of : List ℕ → ℕ
hour_of row = slice_index row 0

-- the arrival at a stop, for a van that leaves the place before at an hour
abbrev pub arrival : Step → ℕ → ℕ → ℕ
arrival s m hour = hour + travel s m

-- the hour of leaving it: who arrives early waits until it opens
abbrev pub leaving : Step → ℕ → ℕ → ℕ
leaving s m hour = max (arrival s m hour) s.stop.opens + serve s m

-- the van arrives no later than the stop closes, and the hour of leaving is not above the ceiling
abbrev pub in_time : Step → ℕ → ℕ → Bool
in_time s m hour = nat_le (arrival s m hour) s.stop.closes && nat_le (leaving s m hour) ceiling

-- the row, broken where the van is late
abbrev pub hours : Extension
hours = recursion (λ s m row. in_time s m (hour_of row)) (λ s m row. leaving s m (hour_of row) ∷ [])

-- a van that begins at an hour is in time at every stop of the route, with its marks, and at the depot
abbrev pub on_time : ℕ → Accepts
on_time beginning = throughout in_time leaving beginning
