-- Worked figures: small routes of one day, each with one figure changed, and what is said of them. Assumes nothing.
use Rattle.std.specs.Prelude.{◌≡◌, ℕ, List, [], ◌∷◌, ◌++◌, length, replicate, Some, None, Option}
use Rattle.records.specs.declared.Head.{Head}
use Rattle.records.specs.declared.Stop.{Stop}
use Rattle.records.specs.declared.Leg.{Leg}
use Rattle.records.specs.Records.{no_leg, window_only}
use Rattle.records.specs.Steps.{steps_of}
use Rattle.resource.specs.Rows.{run}
use Rattle.resource.specs.Scenarios.{Accepts, first_day}
use Rattle.resource.specs.Days.{own_verdict}
use Rattle.resource.specs.Words.{greater, sound}
use Rattle.time.specs.Hours.{hours}
use Rattle.load.specs.Carrying.{carrying}
use Rattle.duty.specs.Driving.{driving}
use Rattle.pair.specs.Sides.{pair_extension, pair_verdict}
use Rattle.layered.specs.Layered.{layered_start, layered_extension}
use Rattle.pile.specs.Product.{product_layers}

-- the day of the worked figures: its head, its stops and its legs
abbrev pub head_a : Head
head_a = record { capacity = 20; drive = 400; travel_budget = 1; serve_budget = 0; demand_budget = 1; stops = 2 }

-- stop 2, which closes at an hour
abbrev pub stops_a : ℕ → List Stop
stops_a closes2 =
    window_only 0 1000 ∷ record { opens = 100; closes = 300; serve = 10; serve_deviation = 5; deliver = 8; deliver_deviation = 3; pickup = 2; pickup_deviation = 0; rest = 0 } ∷ record { opens = 0; closes = closes2; serve = 20; serve_deviation = 0; deliver = 6; deliver_deviation = 4; pickup = 9; pickup_deviation = 1; rest = 1 } ∷ []

abbrev pub leg_of_time : ℕ → ℕ → Leg
leg_of_time t d = record { travel = t; travel_deviation = d }

-- the legs from 0, 1 and 2, with the travel of the leg from 1 to 0
abbrev pub legs_a : ℕ → List Leg
legs_a home1 =
    (no_leg ∷ leg_of_time 100 50 ∷ leg_of_time 150 40 ∷ replicate 38 no_leg) ++ ((leg_of_time home1 50 ∷ no_leg ∷ leg_of_time 120 60 ∷ replicate 38 no_leg) ++ (leg_of_time 150 40 ∷ leg_of_time 120 60 ∷ []))

-- what the product's resource, under the pile of a day, accepts: time from the depot's opens, beside load and duty
abbrev pub product_accepts : Head → ℕ → Accepts
product_accepts h opens =
    own_verdict (pair_verdict 1 sound (pair_verdict 2 sound sound)) (pair_extension 1 hours (pair_extension 2 (carrying h.capacity) (driving h.drive))) ((opens ∷ []) ++ ((0 ∷ 0 ∷ []) ++ (0 ∷ [])))

-- the first day of a route, none where it survives
abbrev pub product_day : Head → List Stop → List Leg → List ℕ → Option (List ℕ)
product_day h ss ls route = first_day (product_accepts h 0) (product_layers h) (steps_of ss ls route) (replicate (length (steps_of ss ls route)) 0)

abbrev pub with_budgets : ℕ → ℕ → ℕ → Head
with_budgets drive travel demand = record { capacity = 20; drive = drive; travel_budget = travel; serve_budget = 0; demand_budget = demand; stops = 2 }

abbrev pub route12 : List ℕ
route12 = 1 ∷ 2 ∷ []

-- Each field is one worked figure. Marks are a byte a step: 1 is travel, 4 demand.
pub record WorkedFigures : Type 0 where
  pub hours_under_a_travel_layer : run (layered_extension 1 1 1 hours greater) (steps_of (stops_a 330) (legs_a 100) route12) (0 ∷ 0 ∷ 0 ∷ []) (layered_start 1 (0 ∷ [])) ≡ 400 ∷ 460 ∷ []
  pub the_day_survives : product_day head_a (stops_a 330) (legs_a 100) route12 ≡ None
  pub travel_two_refused : product_day (with_budgets 400 2 1) (stops_a 330) (legs_a 100) route12 ≡ Some (1 ∷ 1 ∷ 0 ∷ [])
  pub travel_two_until_340 : product_day (with_budgets 400 2 1) (stops_a 340) (legs_a 100) route12 ≡ None
  pub travel_two_until_339 : product_day (with_budgets 400 2 1) (stops_a 339) (legs_a 100) route12 ≡ Some (1 ∷ 1 ∷ 0 ∷ [])
  pub demand_two_refused : product_day (with_budgets 400 1 2) (stops_a 330) (legs_a 100) route12 ≡ Some (4 ∷ 4 ∷ 0 ∷ [])
  pub drive_280 : product_day (with_budgets 280 1 1) (stops_a 330) (legs_a 100) route12 ≡ None
  pub drive_279 : product_day (with_budgets 279 1 1) (stops_a 330) (legs_a 100) route12 ≡ Some (0 ∷ 1 ∷ 0 ∷ [])
  pub long_way_home : product_day head_a (stops_a 330) (legs_a 900) (1 ∷ []) ≡ Some (0 ∷ 0 ∷ [])
