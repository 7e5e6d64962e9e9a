-- The routes that a table of routes stands for. Assumes nothing.
use Rattle.std.specs.Prelude.{ℕ, List, map, take}
use Rattle.table.specs.declared.route.Route.{Route}
use Rattle.table.specs.Routes.{Routes}

-- the stops of a route: the front of its array, as far as the route is long
abbrev pub stops_of : Route → List ℕ
stops_of r = take r.len r.stops

abbrev pub routes_of : List Route → Routes
routes_of rs = map stops_of rs
