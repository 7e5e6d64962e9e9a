-- What a change keeps of a plan, and what can be read of it. Assumes nothing.
use Rattle.std.proofs.Common.{◌≡◌, ℕ, ◌-◌, ◌<◌, ◌≤◌, true, Some, None, List, [], length, get_or, set, sym, ap, ◌∙◌, arith}
use Rattle.std.specs.List.{position}
use Rattle.std.proofs.lemmas.List.{get_or_default}
use Rattle.std.proofs.lemmas.Bool.Decides.{nat_tests}
use Rattle.std.proofs.lemmas.Grind.{common_steps}
use Rattle.records.specs.Limits.{most_stops, stop_records}
use Rattle.records.specs.Steps.{is_stop, are_stops, step_count}
use Rattle.table.specs.declared.table.Spot.{Spot}
use Rattle.table.specs.Routes.{Routes, route_count, holds, put_in, take_out, route_of, route_with, placed, dropped}
use Rattle.table.specs.Standing.{IsPlan, fits_in}
use Rattle.table.proofs.Changes.{has_room, apart-placed, stops_placed, length-placed, apart-dropped, stops_dropped, length-dropped, short_route, short_steps, route_stops}
use Rattle.table.proofs.Standing.{found, place_is, dropped-set}

module _ (rs : Routes) (plan : IsPlan rs) where
  pub plan_short : (q : ℕ) → length (route_of rs q) ≤ most_stops
  plan_short q = short_route rs plan.no_stop_twice plan.stops q

  pub plan_steps : (q : ℕ) → step_count (route_of rs q) ≤ stop_records
  plan_steps q = short_steps rs plan.no_stop_twice plan.stops q

  pub plan_stops : (q : ℕ) → are_stops (route_of rs q) ≡ true
  plan_stops q = route_stops rs plan.stops q

  -- a stop that stands is on a route, and is taken off that route alone
  module _ (x i : ℕ) (is : position (holds x) rs ≡ Some i) where
    pub stands_at : (i < length rs) × (holds x (get_or rs i []) ≡ true)
    stands_at = let on = found 0 x rs i (sym (place_is x rs) ∙ is) in grind arith

    pub dropped_at : (d : List ℕ) → set rs i (take_out x (get_or rs i d)) ≡ dropped x rs
    dropped_at d = ap (λ r. set rs i (take_out x r)) (get_or_default rs i d [] stands_at.0) ∙ sym (dropped-set x rs i plan.no_stop_twice stands_at.1)

  pub plan_dropped : (x : ℕ) → IsPlan (dropped x rs)
  plan_dropped x = record {
    eight = length-dropped x rs ∙ plan.eight;
    no_stop_twice = apart-dropped x rs plan.no_stop_twice;
    stops = stops_dropped x rs plan.stops;
  }

  -- a free stop, and a place of a route
  module _ (x : ℕ) (s : Spot) (fits : fits_in x s rs ≡ true) where
    is_one : is_stop x ≡ true
    is_one = grind (arith, common_steps)

    free : route_with x rs ≡ None
    free = grind (arith, common_steps)

    number : (1 ≤ s.route) × (s.route ≤ route_count)
    number = grind (arith, nat_tests)

    high : s.route ≤ length rs
    high = omega (arith, plan.eight, number.1)

    pub inside : s.route - 1 < length rs
    inside = omega (arith, high, number.0)

    here : (d : List ℕ) → get_or rs (s.route - 1) d ≡ route_of rs s.route
    here d = get_or_default rs (s.route - 1) d [] (omega (arith, high, number.0))

    pub room : (d : List ℕ) → length (get_or rs (s.route - 1) d) < most_stops
    room d = omega (arith, ap length (here d), has_room x rs plan.no_stop_twice plan.stops is_one free s.route)

    pub placed_at : (d : List ℕ) → set rs (s.route - 1) (put_in x s.place (get_or rs (s.route - 1) d)) ≡ placed x s rs
    placed_at d = ap (λ r. set rs (s.route - 1) (put_in x s.place r)) (here d)

    pub plan_placed : IsPlan (placed x s rs)
    plan_placed = record {
      eight = length-placed x s rs ∙ plan.eight;
      no_stop_twice = apart-placed x s rs number.0 high free plan.no_stop_twice;
      stops = stops_placed x s rs number.0 high is_one plan.stops;
    }
