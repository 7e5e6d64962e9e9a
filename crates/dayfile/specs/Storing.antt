-- Where the figures of a line go in a day. Assumes nothing.
use Rattle.std.specs.Prelude.{◌+◌, ◌*◌, ◌≤◌, List, slice_set}
use Rattle.records.specs.declared.Head.{Head}
use Rattle.records.specs.declared.Stop.{Stop}
use Rattle.records.specs.declared.Leg.{Leg}
use Rattle.lines.specs.declared.line.Line.{Line}
use Rattle.lines.specs.declared.line.Line.TheVariants as line
use Rattle.records.specs.Records.{window_only}
use Rattle.dayfile.specs.Days.{Day}

abbrev pub day_of : Head → List Stop → List Leg → Day
day_of h ss ls = record { head = h; stops = ss; legs = ls }

-- a day with the figures of a line in their place
abbrev pub put : Line → Day → Day
put line.Day d = d
put (line.Depot opens closes) d = day_of d.head (slice_set d.stops 0 (window_only opens closes)) d.legs
put (line.Capacity n) d =
    day_of (record { capacity = n; drive = d.head.drive; travel_budget = d.head.travel_budget; serve_budget = d.head.serve_budget; demand_budget = d.head.demand_budget; stops = d.head.stops }) d.stops d.legs
put (line.Drive n) d =
    day_of (record { capacity = d.head.capacity; drive = n; travel_budget = d.head.travel_budget; serve_budget = d.head.serve_budget; demand_budget = d.head.demand_budget; stops = d.head.stops }) d.stops d.legs
put (line.TravelBudget n) d =
    day_of (record { capacity = d.head.capacity; drive = d.head.drive; travel_budget = n; serve_budget = d.head.serve_budget; demand_budget = d.head.demand_budget; stops = d.head.stops }) d.stops d.legs
put (line.ServeBudget n) d =
    day_of (record { capacity = d.head.capacity; drive = d.head.drive; travel_budget = d.head.travel_budget; serve_budget = n; demand_budget = d.head.demand_budget; stops = d.head.stops }) d.stops d.legs
put (line.DemandBudget n) d =
    day_of (record { capacity = d.head.capacity; drive = d.head.drive; travel_budget = d.head.travel_budget; serve_budget = d.head.serve_budget; demand_budget = n; stops = d.head.stops }) d.stops d.legs
put (line.Stops n) d =
    day_of (record { capacity = d.head.capacity; drive = d.head.drive; travel_budget = d.head.travel_budget; serve_budget = d.head.serve_budget; demand_budget = d.head.demand_budget; stops = n }) d.stops d.legs
put (line.Stop number s) d = day_of d.head (slice_set d.stops number s) d.legs
put (line.Leg i j l) d = day_of d.head d.stops (slice_set d.legs (41 * i + j) l)
put line.End d = d

-- the line's stop or leg has a place in the tables
abbrev pub Storable : Line → Type 0
Storable line.Day = Unit {0}
Storable (line.Depot opens closes) = Unit {0}
Storable (line.Capacity n) = Unit {0}
Storable (line.Drive n) = Unit {0}
Storable (line.TravelBudget n) = Unit {0}
Storable (line.ServeBudget n) = Unit {0}
Storable (line.DemandBudget n) = Unit {0}
Storable (line.Stops n) = Unit {0}
Storable (line.Stop number s) = number ≤ 40
Storable (line.Leg i j l) = (i ≤ 40) × (j ≤ 40)
Storable line.End = Unit {0}
