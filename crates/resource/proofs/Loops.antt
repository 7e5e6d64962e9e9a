-- One turn of the loops over rows. Assumes nothing.
use Rattle.std.proofs.Common.{◌≡◌, ℕ, ◌+◌, ◌<◌, ◌≤◌, max, List, [], ◌∷◌, ◌++◌, length, get_or, take, drop, set, append_assoc, arith}
use Rattle.std.proofs.lemmas.List.{append-nil, take_more_set, take_all, drop-set-lt, drop_more, drop_all}
use Rattle.resource.specs.Words.{greater}

-- the greater of two words at a place is written there: the rest of the join is then what is left
pub greater-more : (xs ys : List ℕ) (i w : ℕ) → w ≡ max (get_or xs i 0) (get_or ys i 0) → i < length xs → i < length ys → take (i + 1) (set xs i w) ++ greater (drop (i + 1) (set xs i w)) (drop (i + 1) ys) ≡ take i xs ++ greater (drop i xs) (drop i ys)
greater-more xs ys i w e in-xs in_ys =
    let past : i < i + 1 = omega arith in
    rw (take_more_set xs i w in-xs, drop-set-lt (i + 1) xs i w past, drop_more xs i 0 in-xs, drop_more ys i 0 in_ys, e)
    (append_assoc (take i xs) (max (get_or xs i 0) (get_or ys i 0) ∷ []) (greater (drop (i + 1) xs) (drop (i + 1) ys)))

-- at the end nothing is left
pub greater_all : (xs ys : List ℕ) (i : ℕ) → length xs ≤ i → take i xs ++ greater (drop i xs) (drop i ys) ≡ xs
greater_all xs ys i past = rw (drop_all i xs past, take_all i xs past) (append-nil xs)
