-- A plan's routes as the rules see them: eight lists of stops, and what a change makes of them. Assumes nothing.
use Rattle.std.specs.Prelude.{ℕ, ◌+◌, ◌-◌, Bool, true, not, ◌&&◌, List, [], ◌∷◌, map, replicate, ◌==◌, Option, position, slice_index_or, slice_set}
use Rattle.std.specs.List.{flat_map, filter, insert, list_any}
use Rattle.std.specs.Option.{option_map}
use Rattle.table.specs.declared.table.Spot.{Spot}

-- the routes of a plan, route 1 first, each with its stops in the order in which they are visited
abbrev pub Routes : Type 0
Routes = List (List ℕ)

-- how many routes a plan has
abbrev pub route_count : ℕ
route_count = 8

-- the routes of a new plan: all empty
abbrev pub no_stops : Routes
no_stops = replicate route_count []

-- route number r; routes are numbered from 1
abbrev pub route_of : Routes → ℕ → List ℕ
route_of rs r = slice_index_or rs (r - 1) []

-- a stop stands on a route
abbrev pub holds : ℕ → List ℕ → Bool
holds x xs = list_any (λ y. y == x) xs

-- a stop put in at a place, counted from 0: what stands there and behind it shifts by one
abbrev pub put_in : ℕ → ℕ → List ℕ → List ℕ
put_in x k xs = insert xs k x

-- a stop taken out
abbrev pub take_out : ℕ → List ℕ → List ℕ
take_out x xs = filter (λ y. not (y == x)) xs

-- the number of the first route on which a stop stands
abbrev pub route_with : ℕ → Routes → Option ℕ
route_with x rs = option_map (λ i. i + 1) (position (holds x) rs)

-- what the changes make of the routes: a free stop put in at a spot; a stop taken off; a stop taken out first and then
-- put in at a spot whose place is counted after the taking out
abbrev pub placed : ℕ → Spot → Routes → Routes
placed x s rs = slice_set rs (s.route - 1) (put_in x s.place (route_of rs s.route))

abbrev pub dropped : ℕ → Routes → Routes
dropped x rs = map (take_out x) rs

abbrev pub moved : ℕ → Spot → Routes → Routes
moved x s rs = placed x s (dropped x rs)

-- no number stands twice in a list
abbrev pub distinct : List ℕ → Bool
distinct [] = true
distinct (x ∷ xs) = not (holds x xs) && distinct xs

-- no stop stands twice, on one route or on two
abbrev pub apart : Routes → Bool
apart rs = distinct (flat_map (λ r. r) rs)
