-- Lists of numbers: what stands in them, a number put in or taken out, and how long they can be. Assumes nothing.
use Rattle.std.proofs.Common.{◌≡◌, ℕ, ◌+◌, ◌<◌, ◌≤◌, true, false, not, ◌||◌, eqb, List, [], ◌∷◌, ◌++◌, length, get_or, take, drop, sym, refl, ap, ◌∙◌, arith}
use Rattle.std.specs.List.{AllByRecursion, IsDistinct, list_any}
use Rattle.std.proofs.lemmas.Bool.{eqb-true, eq-eqb, ne_eqb, not_from_true, not_from_false, cond-true, cond-false}
use Rattle.std.proofs.lemmas.Bool.Decides.{nat_tests}
use Rattle.std.proofs.lemmas.Grind.{common_steps}
use Rattle.std.proofs.lemmas.List.{append-nil, take-append-drop, take_more, length-take}
use Rattle.std.proofs.lemmas.List.Elements.{filter-append}
use Rattle.std.proofs.lemmas.List.Folds.{list_any-append}
use Rattle.std.proofs.lemmas.List.Sums.{length-filter, count_by-le-length}
use Rattle.std.proofs.lemmas.List.Sorted.{list_any-IsPermutation, IsPermutation-insert}
use Rattle.std.proofs.lemmas.Map.Keys.{IsDistinct-cons}
use Rattle.std.proofs.lemmas.Map.Views.{any-filter_same}
use Rattle.std.proofs.lemmas.Map.Steps.{length-le_from_distinct_below}
use Rattle.records.specs.Limits.{most_stops}
use Rattle.records.specs.Steps.{is_stop, are_stops, step_count}
use Rattle.table.specs.Routes.{holds, put_in, take_out, distinct}

pub are_stops_parts : (us vs : List ℕ) → are_stops (us ++ vs) ≡ true → (are_stops us ≡ true) × (are_stops vs ≡ true)
are_stops_parts [] vs a = (refl, a)
are_stops_parts (u ∷ us) vs a = grind (arith, common_steps, are_stops_parts us vs)

-- ---- a number taken out

pub take_out_absent : (x : ℕ) (xs : List ℕ) → holds x xs ≡ false → take_out x xs ≡ xs
take_out_absent x [] none = refl
take_out_absent x (y ∷ ys) none = grind (arith, common_steps, take_out_absent x ys)

pub length-take_out-take : (x i : ℕ) (xs : List ℕ) → length (take_out x (take i xs)) ≤ i
length-take_out-take x i xs = let test = λ (y : ℕ). not (eqb y x) in omega (arith, length-filter test (take i xs), count_by-le-length test (take i xs), length-take i xs)

-- in a walk over the list, another number goes on and the same one does not
module _ (x : ℕ) (ks : List ℕ) (i : ℕ) (lt : i < length ks) where
  taken_on : take_out x (take (i + 1) ks) ≡ take_out x (take i ks) ++ take_out x (get_or ks i 0 ∷ [])
  taken_on = ap (take_out x) (take_more ks i 0 lt) ∙ filter-append (λ y. not (eqb y x)) (take i ks) (get_or ks i 0 ∷ [])

  pub other_goes_on : (get_or ks i 0 ≡ x → ⊥) → take_out x (take (i + 1) ks) ≡ take_out x (take i ks) ++ get_or ks i 0 ∷ []
  other_goes_on other = taken_on ∙ ap (λ q. take_out x (take i ks) ++ q) (cond-true (not (eqb (get_or ks i 0) x)) _ _ (not_from_false _ (ne_eqb (get_or ks i 0) x other)))

  pub same_is_out : get_or ks i 0 ≡ x → take_out x (take (i + 1) ks) ≡ take_out x (take i ks)
  same_is_out same = taken_on ∙ ap (λ q. take_out x (take i ks) ++ q) (cond-false (not (eqb (get_or ks i 0) x)) _ _ (not_from_true _ (eq-eqb (get_or ks i 0) x same))) ∙ append-nil (take_out x (take i ks))

pub holds_taken : (x : ℕ) (xs : List ℕ) → holds x (take_out x xs) ≡ false
holds_taken x xs = any-filter_same (λ k. eqb k x) (λ k. not (eqb k x)) false (λ k e. not_from_true _ e) xs

pub holds_others : (x y : ℕ) (xs : List ℕ) → (y ≡ x → ⊥) → holds y (take_out x xs) ≡ holds y xs
holds_others x y xs other = any-filter_same (λ k. eqb k y) (λ k. not (eqb k x)) true (λ k e. not_from_false _ (ne_eqb k x (λ s. other (sym (eqb-true k y e) ∙ s)))) xs

pub distinct-take_out : (x : ℕ) (xs : List ℕ) → distinct xs ≡ true → distinct (take_out x xs) ≡ true
distinct-take_out x [] d = refl
distinct-take_out x (y ∷ ys) d = grind (arith, common_steps, nat_tests, holds_others x y ys, distinct-take_out x ys)

pub are_stops-take_out : (x : ℕ) (xs : List ℕ) → are_stops xs ≡ true → are_stops (take_out x xs) ≡ true
are_stops-take_out x [] a = refl
are_stops-take_out x (y ∷ ys) a = grind (arith, common_steps, are_stops-take_out x ys)

-- ---- a number put in

holds_in : (y x : ℕ) (us vs : List ℕ) → holds y (us ++ x ∷ vs) ≡ (eqb x y || holds y (us ++ vs))
holds_in y x us vs = grind (arith, common_steps, list_any-append)

pub distinct_in : (x : ℕ) (us vs : List ℕ) → distinct (us ++ vs) ≡ true → holds x (us ++ vs) ≡ false → distinct (us ++ x ∷ vs) ≡ true
distinct_in x [] vs d none = grind (arith, common_steps)
distinct_in x (a ∷ us) vs d none = grind (arith, common_steps, nat_tests, holds_in a x us vs, distinct_in x us vs)

pub are_stops_in : (x : ℕ) (us vs : List ℕ) → is_stop x ≡ true → are_stops (us ++ vs) ≡ true → are_stops (us ++ x ∷ vs) ≡ true
are_stops_in x [] vs s a = grind (arith, common_steps)
are_stops_in x (y ∷ ys) vs s a = grind (arith, common_steps, are_stops_in x ys vs)

pub are_stops-put_in : (x k : ℕ) (xs : List ℕ) → is_stop x ≡ true → are_stops xs ≡ true → are_stops (put_in x k xs) ≡ true
are_stops-put_in x k xs s a = grind (arith, common_steps, take-append-drop, are_stops_in x (take k xs) (drop k xs))

pub holds-put_in : (y x k : ℕ) (xs : List ℕ) → holds y (put_in x k xs) ≡ (eqb x y || holds y xs)
holds-put_in y x k xs = sym (list_any-IsPermutation (λ n. eqb n y) (x ∷ xs) _ (IsPermutation-insert xs k x))

-- ---- how many there can be

none_like : (x : ℕ) (xs : List ℕ) → holds x xs ≡ false → AllByRecursion (λ y. eqb x y ≡ false) xs
none_like x [] none = tt
none_like x (y ∷ ys) none = grind (arith, nat_tests, none_like x ys)

IsDistinct-from_distinct : (xs : List ℕ) → distinct xs ≡ true → IsDistinct eqb xs
unfolding IsDistinct
IsDistinct-from_distinct [] d = tt
IsDistinct-from_distinct (x ∷ xs) d = grind (arith, common_steps, none_like x xs, IsDistinct-from_distinct xs)

-- each is from 1 to 40
in_range : (q : ℕ) (xs : List ℕ) → are_stops xs ≡ true → list_any (eqb q) xs ≡ true → q ≤ most_stops
in_range q [] a h = grind arith
in_range q (x ∷ xs) a h = grind (arith, nat_tests, in_range q xs)

no_depot : (xs : List ℕ) → are_stops xs ≡ true → AllByRecursion (λ y. eqb 0 y ≡ false) xs
no_depot [] a = tt
no_depot (x ∷ xs) a = grind (arith, nat_tests, no_depot xs)

-- so with the depot there are at most 41
pub few_stops : (xs : List ℕ) → distinct xs ≡ true → are_stops xs ≡ true → length xs ≤ most_stops
few_stops xs d a =
    omega (arith, length-le_from_distinct_below (0 ∷ xs) (most_stops + 1) (IsDistinct-cons eqb 0 xs (no_depot xs a) (IsDistinct-from_distinct xs d)) (λ q h. grind (arith, nat_tests, in_range q xs)))

-- a stop that is not among them finds room
pub room_left : (x : ℕ) (xs : List ℕ) → distinct xs ≡ true → are_stops xs ≡ true → is_stop x ≡ true → holds x xs ≡ false → length xs < most_stops
room_left x xs d a s none = grind (arith, few_stops (x ∷ xs))

pub length-step_count : (xs : List ℕ) → step_count xs ≤ length xs + 1
length-step_count [] = omega arith
length-step_count (x ∷ xs) = omega arith
