-- What holds of the routes of every plan, and what can be asked of them. Assumes nothing.
use Rattle.std.specs.Prelude.{◌≡◌, ℕ, Bool, true, ◌&&◌, length, nat_le, is_none}
use Rattle.std.specs.List.{flat_map}
use Rattle.records.specs.Steps.{is_stop, are_stops}
use Rattle.table.specs.declared.table.Spot.{Spot}
use Rattle.table.specs.Routes.{Routes, route_count, route_of, route_with, apart}

-- every number on a route is that of a stop
abbrev pub stops_alone : Routes → Bool
stops_alone rs = are_stops (flat_map (λ r. r) rs)

-- a plan has eight routes, no stop stands on them twice, and every number on them is that of a stop
pub record IsPlan (rs : Routes) : Type 0 where
  pub eight : length rs ≡ route_count
  pub no_stop_twice : apart rs ≡ true
  pub stops : stops_alone rs ≡ true

-- the number of a route
abbrev pub is_route : ℕ → Bool
is_route r = nat_le 1 r && nat_le r route_count

-- a stop is free, and the spot is one of a route: before one of its stops, or behind the last
abbrev pub fits_in : ℕ → Spot → Routes → Bool
fits_in x s rs = is_stop x && (is_none (route_with x rs) && (is_route s.route && nat_le s.place (length (route_of rs s.route))))
