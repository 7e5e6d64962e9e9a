-- The line that a day has at a place of its text, and its lines from there on. Assumes nothing.
use Rattle.std.specs.Prelude.{◌≡◌, ℕ, suc, ◌+◌, ◌-◌, ◌≤◌, List, [], ◌∷◌, ◌++◌}
use Rattle.lines.specs.declared.line.Line.{Line}
use Rattle.lines.specs.declared.line.Line.TheVariants as line
use Rattle.dayfile.specs.Days.{Day, stop_at, leg_at, span, stop_line, leg_line, legs_from, day_lines}
use Rattle.dayfile.specs.declared.expectation.Expectation.{Expectation}
use Rattle.dayfile.specs.declared.expectation.Expectation.TheVariants as due

abbrev pub count : Day → ℕ
count d = d.head.stops

-- the day's line at a place
abbrev pub line_due : Day → Expectation → Line
line_due d due.Day = line.Day
line_due d due.Depot = line.Depot (stop_at d 0).opens (stop_at d 0).closes
line_due d due.Capacity = line.Capacity d.head.capacity
line_due d due.Drive = line.Drive d.head.drive
line_due d due.TravelBudget = line.TravelBudget d.head.travel_budget
line_due d due.ServeBudget = line.ServeBudget d.head.serve_budget
line_due d due.DemandBudget = line.DemandBudget d.head.demand_budget
line_due d due.Stops = line.Stops d.head.stops
line_due d (due.Stop k n) = line.Stop k (stop_at d k)
line_due d (due.Leg i j n) = line.Leg i j (leg_at d i j)
line_due d due.End = line.End
line_due d due.Nothing = line.End

-- the stop or the leg at a place is one that the tables have
abbrev pub Placed : Expectation → Type 0
Placed due.Day = Unit {0}
Placed due.Depot = Unit {0}
Placed due.Capacity = Unit {0}
Placed due.Drive = Unit {0}
Placed due.TravelBudget = Unit {0}
Placed due.ServeBudget = Unit {0}
Placed due.DemandBudget = Unit {0}
Placed due.Stops = Unit {0}
Placed (due.Stop k n) = k ≤ 40
Placed (due.Leg i j n) = (i ≤ 40) × (j ≤ 40)
Placed due.End = Unit {0}
Placed due.Nothing = Unit {0}

-- the legs from place i on, and the end
abbrev pub rows_from : Day → ℕ → ℕ → List Line
rows_from d i m = span (legs_from d) i m ++ line.End ∷ []

abbrev pub stops_from : Day → ℕ → ℕ → List Line
stops_from d k m = span (stop_line d) k m ++ rows_from d 0 (suc (count d))

-- the day's lines from a place on
abbrev pub from : Day → Expectation → List Line
from d due.Day = day_lines d
from d due.Depot = line_due d due.Depot ∷ line_due d due.Capacity ∷ line_due d due.Drive ∷ line_due d due.TravelBudget ∷ line_due d due.ServeBudget ∷ line_due d due.DemandBudget ∷ line_due d due.Stops ∷ stops_from d 1 (count d)
from d due.Capacity = line_due d due.Capacity ∷ line_due d due.Drive ∷ line_due d due.TravelBudget ∷ line_due d due.ServeBudget ∷ line_due d due.DemandBudget ∷ line_due d due.Stops ∷ stops_from d 1 (count d)
from d due.Drive = line_due d due.Drive ∷ line_due d due.TravelBudget ∷ line_due d due.ServeBudget ∷ line_due d due.DemandBudget ∷ line_due d due.Stops ∷ stops_from d 1 (count d)
from d due.TravelBudget = line_due d due.TravelBudget ∷ line_due d due.ServeBudget ∷ line_due d due.DemandBudget ∷ line_due d due.Stops ∷ stops_from d 1 (count d)
from d due.ServeBudget = line_due d due.ServeBudget ∷ line_due d due.DemandBudget ∷ line_due d due.Stops ∷ stops_from d 1 (count d)
from d due.DemandBudget = line_due d due.DemandBudget ∷ line_due d due.Stops ∷ stops_from d 1 (count d)
from d due.Stops = line_due d due.Stops ∷ stops_from d 1 (count d)
from d (due.Stop k n) = stops_from d k (suc (count d) - k)
from d (due.Leg i j n) = span (leg_line d i) j (suc (count d) - j) ++ rows_from d (i + 1) (count d - i)
from d due.End = line.End ∷ []
from d due.Nothing = []

-- the stop or the leg that is due is one of the day's
abbrev pub Range : Expectation → Day → Type 0
Range due.Day d = Unit {0}
Range due.Depot d = Unit {0}
Range due.Capacity d = Unit {0}
Range due.Drive d = Unit {0}
Range due.TravelBudget d = Unit {0}
Range due.ServeBudget d = Unit {0}
Range due.DemandBudget d = Unit {0}
Range due.Stops d = Unit {0}
Range (due.Stop k n) d = ((n ≡ count d) × (1 ≤ n) × (n ≤ 40)) × (1 ≤ k) × (k ≤ n)
Range (due.Leg i j n) d = ((n ≡ count d) × (1 ≤ n) × (n ≤ 40)) × (i ≤ n) × (j ≤ n) × (i ≡ j → ⊥)
Range due.End d = (1 ≤ count d) × (count d ≤ 40)
Range due.Nothing d = (1 ≤ count d) × (count d ≤ 40)
