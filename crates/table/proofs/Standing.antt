-- Where a stop stands: the route that holds it, counted from 0, and all routes joined. Assumes nothing.
use Rattle.std.proofs.Common.{◌≡◌, ℕ, zero, suc, ◌+◌, ◌<◌, ◌≤◌, true, false, List, [], ◌∷◌, ◌++◌, length, get_or, take, drop, set, Some, None, sym, refl, ap, ◌∙◌, ⊎_elim, arith, length-append}
use Rattle.std.specs.Prelude.{Option}
use Rattle.std.specs.List.{flat_map, position, position_from}
use Rattle.std.specs.Option.{option_map}
use Rattle.std.proofs.lemmas.Iterator.Adapters.{position_from-zero}
use Rattle.std.proofs.lemmas.List.{append_assoc, take-append-drop}
use Rattle.std.proofs.lemmas.List.Elements.{filter-append}
use Rattle.std.proofs.lemmas.List.Folds.{list_any-append}
use Rattle.std.proofs.lemmas.Bool.{cases_Bool}
use Rattle.std.proofs.lemmas.Bool.Decides.{nat_tests}
use Rattle.std.proofs.lemmas.Grind.{common_steps}
use Rattle.records.specs.Steps.{are_stops}
use Rattle.table.specs.Standing.{stops_alone}
use Rattle.table.specs.Routes.{Routes, holds, put_in, take_out, route_with, dropped, distinct, apart}
use Rattle.table.proofs.Numbers.{holds-put_in, holds_others, take_out_absent, are_stops_parts}

-- all stops of a plan, route after route
abbrev pub standing : Routes → List ℕ
standing rs = flat_map (λ r. r) rs

-- a stop that stands on a route stands on the plan
pub on_plan : (x : ℕ) (rs : Routes) (i : ℕ) → holds x (get_or rs i []) ≡ true → holds x (standing rs) ≡ true
on_plan x [] i h = h
on_plan x (r ∷ rs) zero h = grind (arith, common_steps, list_any-append)
on_plan x (r ∷ rs) (suc i) h = grind (arith, common_steps, list_any-append, on_plan x rs i)

-- of two lists that have no number twice between them, a number stands in one alone
not_both : (x : ℕ) (us vs : List ℕ) → distinct (us ++ vs) ≡ true → holds x vs ≡ true → holds x us ≡ false
not_both x [] vs d h = refl
not_both x (u ∷ us) vs d h = grind (arith, common_steps, nat_tests, list_any-append, not_both x us vs)

distinct_rest : (us vs : List ℕ) → distinct (us ++ vs) ≡ true → distinct vs ≡ true
distinct_rest [] vs d = d
distinct_rest (u ∷ us) vs d = grind (arith, common_steps, distinct_rest us vs)

-- ---- a route is a part of the plan

pub length_at : (rs : Routes) (i : ℕ) → length (get_or rs i []) ≤ length (standing rs)
length_at [] i = omega arith
length_at (r ∷ rs) zero = omega (arith, length-append r (standing rs))
length_at (r ∷ rs) (suc i) = omega (arith, length-append r (standing rs), length_at rs i)

pub stops_at : (rs : Routes) (i : ℕ) → stops_alone rs ≡ true → are_stops (get_or rs i []) ≡ true
stops_at [] i s = refl
stops_at (r ∷ rs) zero s = grind (arith, common_steps, are_stops_parts r (standing rs))
stops_at (r ∷ rs) (suc i) s = grind (arith, common_steps, are_stops_parts r (standing rs), stops_at rs i)

-- ---- the route with a stop

-- the first route that holds a stop, where the routes are counted from n
abbrev pub route_from : ℕ → ℕ → Routes → Option ℕ
route_from n x rs = position_from (holds x) n rs

-- a search that counts from one more finds one more
counted : (n x : ℕ) (rs : Routes) → route_from (n + 1) x rs ≡ option_map (λ i. i + 1) (route_from n x rs)
counted n x [] = refl
counted n x (r ∷ rs) = grind (arith, common_steps, counted (n + 1) x rs)

-- the place of the route in the list, and its number
pub place_is : (x : ℕ) (rs : Routes) → position (holds x) rs ≡ route_from 0 x rs
place_is x rs = position_from-zero (holds x) rs

pub number_is : (x : ℕ) (rs : Routes) → route_with x rs ≡ route_from 1 x rs
number_is x rs = ap (option_map (λ i. i + 1)) (place_is x rs) ∙ sym (counted 0 x rs)

-- where no stop stands twice, the route that holds a stop is the one that is found
pub the_route : (n x : ℕ) (rs : Routes) (i : ℕ) → apart rs ≡ true → holds x (get_or rs i []) ≡ true → route_from n x rs ≡ Some (n + i)
the_route n x [] i a h = grind arith
the_route n x (r ∷ rs) zero a h = grind (arith, common_steps)
the_route n x (r ∷ rs) (suc i) a h = grind (arith, common_steps, not_both x r (standing rs), on_plan x rs i, the_route (n + 1) x rs i, distinct_rest r (standing rs))

-- the route that is found holds the stop
pub found : (n x : ℕ) (rs : Routes) (q : ℕ) → route_from n x rs ≡ Some q → (i : ℕ) × (i < length rs) × (q ≡ n + i) × (holds x (get_or rs i []) ≡ true)
found n x [] q is = grind arith
found n x (r ∷ rs) q is =
    ⊎_elim
    (λ here. (0, omega arith, grind (arith, common_steps), here))
    (λ behind. let rest = found (n + 1) x rs q (grind (arith, common_steps)) in (suc rest.0, omega (arith, rest.1), omega (arith, rest.2), rest.3))
    (cases_Bool (holds x r))

-- a stop that is not found does not stand on the plan
pub nowhere : (n x : ℕ) (rs : Routes) → route_from n x rs ≡ None → holds x (standing rs) ≡ false
nowhere n x [] free = refl
nowhere n x (r ∷ rs) free = grind (arith, common_steps, list_any-append, nowhere (n + 1) x rs)

pub not_found : (n x : ℕ) (rs : Routes) → holds x (standing rs) ≡ false → route_from n x rs ≡ None
not_found n x [] none = refl
not_found n x (r ∷ rs) none = grind (arith, common_steps, list_any-append, not_found (n + 1) x rs)

-- ---- a stop taken out of every route

pub standing_dropped : (x : ℕ) (rs : Routes) → standing (dropped x rs) ≡ take_out x (standing rs)
standing_dropped x [] = refl
standing_dropped x (r ∷ rs) = grind (arith, common_steps, filter-append, standing_dropped x rs)

pub get_d_dropped : (x : ℕ) (rs : Routes) (i : ℕ) → get_or (dropped x rs) i [] ≡ take_out x (get_or rs i [])
get_d_dropped x [] i = refl
get_d_dropped x (r ∷ rs) zero = refl
get_d_dropped x (r ∷ rs) (suc i) = get_d_dropped x rs i

pub dropped_absent : (x : ℕ) (rs : Routes) → holds x (standing rs) ≡ false → dropped x rs ≡ rs
dropped_absent x [] none = refl
dropped_absent x (r ∷ rs) none = grind (arith, common_steps, list_any-append, take_out_absent x r, dropped_absent x rs)

-- it changes the one route that holds the stop
pub dropped-set : (x : ℕ) (rs : Routes) (i : ℕ) → apart rs ≡ true → holds x (get_or rs i []) ≡ true → dropped x rs ≡ set rs i (take_out x (get_or rs i []))
dropped-set x [] i a h = refl
dropped-set x (r ∷ rs) zero a h = grind (arith, common_steps, dropped_absent x rs, not_both x r (standing rs))
dropped-set x (r ∷ rs) (suc i) a h = grind (arith, common_steps, take_out_absent x r, not_both x r (standing rs), on_plan x rs i, dropped-set x rs i, distinct_rest r (standing rs))

pub others_dropped : (n x y : ℕ) (rs : Routes) → (y ≡ x → ⊥) → route_from n y (dropped x rs) ≡ route_from n y rs
others_dropped n x y [] other = refl
others_dropped n x y (r ∷ rs) other = grind (arith, common_steps, holds_others x y r, others_dropped (n + 1) x y rs)

-- ---- a stop put in at a place of one route

-- it is put in between two parts of the plan
pub record Between (x : ℕ) (old new : List ℕ) : Type 0 where
  pub front : List ℕ
  pub back : List ℕ
  pub before : old ≡ front ++ back
  pub after : new ≡ front ++ x ∷ back

module _ (x k : ℕ) where
  pub standing_placed : (rs : Routes) (i : ℕ) → i < length rs → Between x (standing rs) (standing (set rs i (put_in x k (get_or rs i []))))
  standing_placed [] i h = absurd (omega arith)
  standing_placed (r ∷ rs) zero h = record {
    front = take k r;
    back = drop k r ++ standing rs;
    before = ap (λ q. q ++ standing rs) (sym (take-append-drop k r)) ∙ append_assoc (take k r) (drop k r) (standing rs);
    after = grind (arith, common_steps, append_assoc);
  }
  standing_placed (r ∷ rs) (suc i) h =
      let rest = standing_placed rs i (omega arith) in
      record {
        front = r ++ rest.front;
        back = rest.back;
        before = grind (arith, common_steps, append_assoc);
        after = grind (arith, common_steps, append_assoc);
      }

  pub found_placed : (n : ℕ) (rs : Routes) (i : ℕ) → holds x (standing rs) ≡ false → i < length rs → route_from n x (set rs i (put_in x k (get_or rs i []))) ≡ Some (n + i)
  found_placed n [] i none h = grind arith
  found_placed n (r ∷ rs) zero none h = grind (arith, common_steps, nat_tests, holds-put_in x x k r)
  found_placed n (r ∷ rs) (suc i) none h = grind (arith, common_steps, list_any-append, found_placed (n + 1) rs i)

  pub others_placed : (n y : ℕ) (rs : Routes) (i : ℕ) → (y ≡ x → ⊥) → route_from n y (set rs i (put_in x k (get_or rs i []))) ≡ route_from n y rs
  others_placed n y [] i other = refl
  others_placed n y (r ∷ rs) zero other = grind (arith, common_steps, nat_tests, holds-put_in y x k r)
  others_placed n y (r ∷ rs) (suc i) other = grind (arith, common_steps, others_placed (n + 1) y rs i)
