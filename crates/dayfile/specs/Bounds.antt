-- The bounds of every number of a day file, and what a line has to keep beside them. Assumes nothing.
use Rattle.std.specs.Prelude.{ℕ, Bool, true, ◌&&◌, Some, None, Option, nat_le}
use Rattle.records.specs.declared.Stop.{Stop}
use Rattle.records.specs.declared.Leg.{Leg}
use Rattle.lines.specs.declared.line.Line.{Line}
use Rattle.lines.specs.declared.line.Line.TheVariants as line
use Rattle.dayfile.specs.declared.bounds.Subject.{Subject}
use Rattle.dayfile.specs.declared.bounds.Subject.TheVariants as about

-- a time, in seconds
abbrev pub is_time : ℕ → Bool
is_time t = nat_le t 100000

-- a quantity, in crates
abbrev pub is_quantity : ℕ → Bool
is_quantity q = nat_le q 10000

abbrev pub is_budget : ℕ → Bool
is_budget g = nat_le g 8

-- how many stops a day has
abbrev pub is_count : ℕ → Bool
is_count n = nat_le 1 n && nat_le n 40

-- every figure of a stop is within its bounds
abbrev pub sound_stop : Stop → Bool
sound_stop s =
    (is_time s.opens && is_time s.closes) && ((is_time s.serve && is_time s.serve_deviation) && ((is_quantity s.deliver && is_quantity s.deliver_deviation) && ((is_quantity s.pickup && is_quantity s.pickup_deviation) && nat_le s.rest 1)))

abbrev pub sound_leg : Leg → Bool
sound_leg l = is_time l.travel && is_time l.travel_deviation

-- Every number of the line is within its bounds. A stop's own number is judged by its turn alone.
abbrev pub within : Line → Bool
within line.Day = true
within (line.Depot opens closes) = is_time opens && is_time closes
within (line.Capacity crates) = is_quantity crates
within (line.Drive seconds) = is_time seconds
within (line.TravelBudget most) = is_budget most
within (line.ServeBudget most) = is_budget most
within (line.DemandBudget most) = is_budget most
within (line.Stops count) = is_count count
within (line.Stop number s) = sound_stop s
within (line.Leg i j l) = (nat_le i 40 && nat_le j 40) && sound_leg l
within line.End = true

-- a window opens no later than it closes
abbrev pub ordered : Line → Bool
ordered line.Day = true
ordered (line.Depot opens closes) = nat_le opens closes
ordered (line.Capacity crates) = true
ordered (line.Drive seconds) = true
ordered (line.TravelBudget most) = true
ordered (line.ServeBudget most) = true
ordered (line.DemandBudget most) = true
ordered (line.Stops count) = true
ordered (line.Stop number s) = nat_le s.opens s.closes
ordered (line.Leg i j l) = true
ordered line.End = true

-- the stop or the leg that a line is about; none where it is about neither
abbrev pub subject : Line → Option Subject
subject line.Day = None
subject (line.Depot opens closes) = None
subject (line.Capacity crates) = None
subject (line.Drive seconds) = None
subject (line.TravelBudget most) = None
subject (line.ServeBudget most) = None
subject (line.DemandBudget most) = None
subject (line.Stops count) = None
subject (line.Stop number s) = Some (about.Stop number)
subject (line.Leg i j l) = Some (about.Leg i j)
subject line.End = None
