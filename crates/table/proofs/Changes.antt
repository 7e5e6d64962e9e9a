-- What a change makes of a plan's routes, route by route and stop by stop. Assumes nothing.
use Rattle.std.proofs.Common.{◌≡◌, ℕ, ◌+◌, ◌-◌, ◌<◌, ◌≤◌, true, false, List, [], length, get_or, Some, None, sym, ap, ◌∙◌, subst, ⊎_elim, arith}
use Rattle.std.specs.List.{AllByRecursion, position}
use Rattle.std.specs.Option.{option_map}
use Rattle.std.proofs.ByRecursion.{All-get_or, All-from_get_or}
use Rattle.std.proofs.lemmas.List.{length-set, length-map, get_or-set_same, get_or-set_other}
use Rattle.std.proofs.lemmas.Bool.{cases_Bool, cases_eq}
use Rattle.records.specs.Limits.{most_stops, stop_records}
use Rattle.records.specs.Steps.{is_stop, are_stops, step_count}
use Rattle.table.specs.declared.table.Spot.{Spot}
use Rattle.table.specs.Routes.{Routes, route_of, holds, put_in, take_out, route_with, placed, dropped, apart}
use Rattle.table.specs.Standing.{stops_alone}
use Rattle.table.proofs.Numbers.{take_out_absent, holds_taken, distinct-take_out, are_stops-take_out, distinct_in, are_stops_in, few_stops, room_left, length-step_count}
use Rattle.table.proofs.Standing.{standing, on_plan, number_is, the_route, found, nowhere, not_found, standing_dropped, get_d_dropped, dropped_absent, others_dropped, standing_placed, found_placed, others_placed, length_at, stops_at}

-- ---- where a stop stands

-- a free stop stands on no route
pub free_nowhere : (x : ℕ) (rs : Routes) → route_with x rs ≡ None → (q : ℕ) → holds x (route_of rs q) ≡ false
free_nowhere x rs free q = grind (arith, number_is x rs, nowhere 1 x rs, on_plan x rs (q - 1))

-- any other stands on one route alone, the one that has it
pub stands_there : (x : ℕ) (rs : Routes) (q : ℕ) → route_with x rs ≡ Some q → (1 ≤ q) × (q ≤ length rs) × (holds x (route_of rs q) ≡ true)
stands_there x rs q is = let on = found 1 x rs q (sym (number_is x rs) ∙ is) in grind arith

pub only_there : (x : ℕ) (rs : Routes) → apart rs ≡ true → (q : ℕ) → 1 ≤ q → (route_with x rs ≡ Some q → ⊥) → holds x (route_of rs q) ≡ false
only_there x rs a q from other = grind (arith, number_is x rs, the_route 1 x rs (q - 1))

-- ---- a stop taken off

pub length-dropped : (x : ℕ) (rs : Routes) → length (dropped x rs) ≡ length rs
length-dropped x rs = length-map rs (take_out x)

pub dropped_there : (x : ℕ) (rs : Routes) (q : ℕ) → route_of (dropped x rs) q ≡ take_out x (route_of rs q)
dropped_there x rs q = get_d_dropped x rs (q - 1)

pub dropped_elsewhere : (x : ℕ) (rs : Routes) → apart rs ≡ true → (q : ℕ) → 1 ≤ q → (route_with x rs ≡ Some q → ⊥) → route_of (dropped x rs) q ≡ route_of rs q
dropped_elsewhere x rs a q from other = grind (arith, dropped_there x rs q, take_out_absent x (route_of rs q), only_there x rs)

pub dropped_free : (x : ℕ) (rs : Routes) → route_with x rs ≡ None → dropped x rs ≡ rs
dropped_free x rs free = grind (arith, number_is x rs, nowhere 1 x rs, dropped_absent x rs)

pub dropped_nowhere : (x : ℕ) (rs : Routes) → position (holds x) rs ≡ None → dropped x rs ≡ rs
dropped_nowhere x rs none = dropped_free x rs (ap (option_map (λ i. i + 1)) none)

pub with_dropped : (x : ℕ) (rs : Routes) → route_with x (dropped x rs) ≡ None
with_dropped x rs = grind (arith, number_is x (dropped x rs), not_found 1 x (dropped x rs), standing_dropped x rs, holds_taken x (standing rs))

pub with_others_dropped : (x y : ℕ) (rs : Routes) → (y ≡ x → ⊥) → route_with y (dropped x rs) ≡ route_with y rs
with_others_dropped x y rs other = grind (arith, number_is y (dropped x rs), number_is y rs, others_dropped 1 x y rs)

pub apart-dropped : (x : ℕ) (rs : Routes) → apart rs ≡ true → apart (dropped x rs) ≡ true
apart-dropped x rs a = grind (arith, standing_dropped x rs, distinct-take_out x (standing rs))

pub stops_dropped : (x : ℕ) (rs : Routes) → stops_alone rs ≡ true → stops_alone (dropped x rs) ≡ true
stops_dropped x rs s = grind (arith, standing_dropped x rs, are_stops-take_out x (standing rs))

-- ---- a stop put in

module _ (x : ℕ) (s : Spot) (rs : Routes) where
  pub length-placed : length (placed x s rs) ≡ length rs
  length-placed = length-set rs (s.route - 1) (put_in x s.place (route_of rs s.route))

  pub placed_elsewhere : 1 ≤ s.route → (q : ℕ) → 1 ≤ q → (q ≡ s.route → ⊥) → route_of (placed x s rs) q ≡ route_of rs q
  placed_elsewhere low q from other = get_or-set_other rs (s.route - 1) (q - 1) (put_in x s.place (route_of rs s.route)) [] (λ e. other (omega arith))

  pub with_others_placed : (y : ℕ) → (y ≡ x → ⊥) → route_with y (placed x s rs) ≡ route_with y rs
  with_others_placed y other = grind (arith, number_is y rs, number_is y (placed x s rs), others_placed x s.place 1 y rs (s.route - 1))

module _ (x : ℕ) (s : Spot) (rs : Routes) (low : 1 ≤ s.route) (high : s.route ≤ length rs) where
  pub placed_there : route_of (placed x s rs) s.route ≡ put_in x s.place (route_of rs s.route)
  placed_there = get_or-set_same rs (s.route - 1) (put_in x s.place (route_of rs s.route)) [] (omega arith)

  pub with_placed : route_with x rs ≡ None → route_with x (placed x s rs) ≡ Some s.route
  with_placed free = grind (arith, number_is x rs, number_is x (placed x s rs), nowhere 1 x rs, found_placed x s.place 1 rs (s.route - 1))

  pub apart-placed : route_with x rs ≡ None → apart rs ≡ true → apart (placed x s rs) ≡ true
  apart-placed free a = let b = standing_placed x s.place rs (s.route - 1) (omega arith) in grind (arith, number_is x rs, nowhere 1 x rs, distinct_in x b.front b.back)

  pub stops_placed : is_stop x ≡ true → stops_alone rs ≡ true → stops_alone (placed x s rs) ≡ true
  stops_placed is a = let b = standing_placed x s.place rs (s.route - 1) (omega arith) in grind (arith, are_stops_in x b.front b.back)

-- ---- what a route has on it, and how long it is

-- every number of a route is that of a stop
pub route_stops : (rs : Routes) → stops_alone rs ≡ true → (q : ℕ) → are_stops (route_of rs q) ≡ true
route_stops rs s q = stops_at rs (q - 1) s

pub short_route : (rs : Routes) → apart rs ≡ true → stops_alone rs ≡ true → (q : ℕ) → length (route_of rs q) ≤ most_stops
short_route rs a s q = omega (arith, length_at rs (q - 1), few_stops (standing rs) a s)

pub short_steps : (rs : Routes) → apart rs ≡ true → stops_alone rs ≡ true → (q : ℕ) → step_count (route_of rs q) ≤ stop_records
short_steps rs a s q = omega (arith, length-step_count (route_of rs q), short_route rs a s q)

-- a free stop finds room on every route
pub has_room : (x : ℕ) (rs : Routes) → apart rs ≡ true → stops_alone rs ≡ true → is_stop x ≡ true → route_with x rs ≡ None → (q : ℕ) → length (route_of rs q) < most_stops
has_room x rs a s is free q = grind (arith, number_is x rs, nowhere 1 x rs, length_at rs (q - 1), room_left x (standing rs))

-- ---- what holds of every route

abbrev pub EveryRoute : (List ℕ → Type 0) → Routes → Type 0
EveryRoute P rs = (q : ℕ) → 1 ≤ q → q ≤ length rs → P (route_of rs q)

module _ (P : List ℕ → Type 0) where
  pub every_from_all : (rs : Routes) → AllByRecursion P rs → EveryRoute P rs
  every_from_all rs a q low high = All-get_or P rs (q - 1) [] (omega arith) a

  pub all_from_every : (rs : Routes) → EveryRoute P rs → AllByRecursion P rs
  all_from_every rs every = All-from_get_or P rs [] (λ i h. let at : i + 1 - 1 ≡ i = omega arith in subst (λ j. P (get_or rs j [])) at (every (i + 1) (omega arith) (omega arith)))

  pub every-placed : (x : ℕ) (s : Spot) (rs : Routes) → 1 ≤ s.route → s.route ≤ length rs → EveryRoute P rs → P (put_in x s.place (route_of rs s.route)) → EveryRoute P (placed x s rs)
  every-placed x s rs low high every new q from to =
      ⊎_elim
      (λ e. subst P (sym (ap (route_of (placed x s rs)) e ∙ placed_there x s rs low high)) new)
      (λ other. subst P (sym (placed_elsewhere x s rs low q from other)) (every q from (omega (arith, length-placed x s rs))))
      (cases_eq q s.route)

  pub every-dropped : (x : ℕ) (rs : Routes) → apart rs ≡ true → EveryRoute P rs → ((q : ℕ) → route_with x rs ≡ Some q → P (take_out x (route_of rs q))) → EveryRoute P (dropped x rs)
  every-dropped x rs a every new q from to =
      subst P (sym (dropped_there x rs q))
      (⊎_elim
      (λ here. new q (number_is x rs ∙ the_route 1 x rs (q - 1) a here ∙ ap Some (omega arith)))
      (λ none. subst P (sym (take_out_absent x (route_of rs q) none)) (every q from (omega (arith, length-dropped x rs))))
      (cases_Bool (holds x (route_of rs q))))
