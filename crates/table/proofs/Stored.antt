-- The array that the stops of a route lie in, when one more is put in; and the array that a table's routes lie in.
-- Assumes nothing.
use Rattle.std.proofs.Common.{◌≡◌, ℕ, ◌+◌, ◌-◌, ◌<◌, ◌≤◌, true, List, [], ◌∷◌, ◌++◌, length, get_or, take, drop, set, replicate, Bool, cond, nat_lt, Some, None, refl, sym, ap, ◌∙◌, arith, length-append, length-drop, length-set}
use Rattle.std.proofs.Math.Seq.{take-set-lt}
use Rattle.std.specs.List.{insert, copy_within, position, position_or_len}
use Rattle.std.proofs.lemmas.List.{append_assoc, append-nil, drop-drop, drop_at, drop-replicate, drop-set-lt, get_or-map, length-map, length-take-le, map-set, set-append_left, take_at, take-take, take_more_set}
use Rattle.std.proofs.lemmas.List.Edits.{length-insert}
use Rattle.std.proofs.lemmas.Slice.{between_is}
use Rattle.std.proofs.lemmas.Grind.{common_steps}
use Rattle.records.specs.Limits.{most_stops}
use Rattle.records.specs.Steps.{is_stop, are_stops}
use Rattle.table.specs.declared.route.Route.{Route}
use Rattle.table.specs.Laid.{IsRoute, zeros_behind, as_long}
use Rattle.table.specs.Stored.{stops_of, routes_of}
use Rattle.table.proofs.Numbers.{are_stops-put_in, are_stops_in}

one_less : (n : ℕ) → most_stops - n - 1 ≡ most_stops - (n + 1)
one_less n = omega arith

module _ (xs : List ℕ) (n : ℕ) (route : IsRoute xs n) where
  behind : drop (n + 1) xs ≡ zeros_behind (n + 1)
  behind = sym (drop-drop 1 n xs) ∙ ap (drop 1) route.rest ∙ drop-replicate 1 (most_stops - n) 0 ∙ ap (λ m. replicate m 0) (one_less n)

  -- a stop is written behind the last
  pub one_behind : (x : ℕ) → is_stop x ≡ true → n < most_stops → IsRoute (set xs n x) (n + 1)
  one_behind x stop room = record {
    short = omega arith;
    places = length-set xs n x ∙ route.places;
    stops =
        ap are_stops (take_more_set xs n x (omega (arith, route.places)))
        ∙ are_stops_in x (take n xs) [] stop (ap are_stops (append-nil (take n xs)) ∙ route.stops);
    rest = drop-set-lt (n + 1) xs n x (omega arith) ∙ behind;
  }

  -- a stop is put in at place k, and what is behind the new stops stays
  module _ (x k : ℕ) (stop : is_stop x ≡ true) (room : length (take n xs) < most_stops) (within : k ≤ length (take n xs)) (ys : List ℕ) (is : ys ≡ insert (take n xs) k x ++ drop (n + 1) xs) where
    longer : length (insert (take n xs) k x) ≡ n + 1
    longer = omega (arith, length-insert (take n xs) k x within, as_long xs n route)

    pub seen : take (n + 1) ys ≡ insert (take n xs) k x
    seen = ap (take (n + 1)) is ∙ take_at _ _ (n + 1) longer

    pub one_more : IsRoute ys (n + 1)
    one_more = record {
      short = omega (arith, as_long xs n route);
      places = omega (arith, ap length is, length-append (insert (take n xs) k x) (drop (n + 1) xs), longer, length-drop (n + 1) xs, route.places, as_long xs n route);
      stops = ap are_stops seen ∙ are_stops-put_in x k (take n xs) stop route.stops;
      rest = ap (drop (n + 1)) is ∙ drop_at _ _ (n + 1) longer ∙ behind;
    }

-- what follows place k is copied by one place, and x is written at k
pub shifted : (x k n : ℕ) (xs : List ℕ) → k ≤ n → n < length xs → set (copy_within xs k n (k + 1)) k x ≡ insert (take n xs) k x ++ drop (n + 1) xs
shifted x k n xs low high =
    let front : length (take (k + 1) xs) ≡ k + 1 = length-take-le (k + 1) xs (omega arith) in
    let q = take (n - k) (drop k xs) in
    let written : set (take (k + 1) xs) k x ≡ take k xs ++ x ∷ [] = sym (take-set-lt (k + 1) xs k x (omega arith)) ∙ take_more_set xs k x (omega arith) in
    let past : k + 1 + (n - k) ≡ n + 1 = omega arith in
    set-append_left (take (k + 1) xs ++ q) _ k x (omega (arith, front, length-append (take (k + 1) xs) q))
    ∙ ap (λ l. l ++ drop (k + 1 + (n - k)) xs) (set-append_left (take (k + 1) xs) q k x (omega arith) ∙ ap (λ l. l ++ q) written ∙ append_assoc (take k xs) (x ∷ []) q ∙ (λ i. sym (take-take k n xs low) i ++ x ∷ between_is xs k n i))
    ∙ ap (λ m. insert (take n xs) k x ++ drop m xs) past

-- ---- the routes of a table

module _ (rs : List Route) (i : ℕ) where
  pub stored : (d : Route) → i < length rs → stops_of (get_or rs i d) ≡ get_or (routes_of rs) i []
  stored d lt = sym (get_or-map stops_of rs i d [] lt)

  -- a route is written, made by `f` of the one that stood there
  pub stored-set : (f : List ℕ → List ℕ) (new d : Route) → i < length rs → stops_of new ≡ f (stops_of (get_or rs i d)) → routes_of (set rs i new) ≡ set (routes_of rs) i (f (get_or (routes_of rs) i []))
  stored-set f new d lt is = map-set stops_of rs i new ∙ ap (set (routes_of rs) i) (is ∙ ap f (stored d lt))

-- a search among the routes of a table is one among their stops
module _ (p : List ℕ → Bool) where
  place_seen : (rs : List Route) → position_or_len (λ r. p (stops_of r)) rs ≡ position_or_len p (routes_of rs)
  place_seen [] = refl
  place_seen (r ∷ rs) = grind (arith, common_steps, place_seen rs)

  pub position_seen : (rs : List Route) → position (λ r. p (stops_of r)) rs ≡ position p (routes_of rs)
  position_seen rs = (λ i. cond (nat_lt (place_seen rs i) (sym (length-map rs stops_of) i)) (Some (place_seen rs i)) None)
