-- Records that are all 0, and those that have a window and nothing else. Assumes nothing.
use Rattle.std.specs.Prelude.{ℕ}
use Rattle.records.specs.declared.Head.{Head}
use Rattle.records.specs.declared.Stop.{Stop}
use Rattle.records.specs.declared.Leg.{Leg}

abbrev pub no_head : Head
no_head = record { capacity = 0; drive = 0; travel_budget = 0; serve_budget = 0; demand_budget = 0; stops = 0 }

-- a record that has a window and nothing else, as the depot's
abbrev pub window_only : ℕ → ℕ → Stop
window_only o c = record { opens = o; closes = c; serve = 0; serve_deviation = 0; deliver = 0; deliver_deviation = 0; pickup = 0; pickup_deviation = 0; rest = 0 }

abbrev pub no_stop : Stop
no_stop = window_only 0 0

abbrev pub no_leg : Leg
no_leg = record { travel = 0; travel_deviation = 0 }
