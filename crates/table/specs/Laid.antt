-- How the stops of a route lie in its array. Assumes nothing.
use Rattle.std.specs.Prelude.{◌≡◌, ℕ, ◌-◌, ◌≤◌, true, List, ◌++◌, length, take, drop, replicate}
use Rattle.std.proofs.Common.{sym, ap, ◌∙◌, subst, take-append-drop, length-take-le}
use Rattle.records.specs.Limits.{most_stops}
use Rattle.records.specs.Steps.{are_stops}

-- what the places hold that are behind the stops of a route
abbrev pub zeros_behind : ℕ → List ℕ
zeros_behind n = replicate (most_stops - n) 0

-- the first n of the array's numbers are those of stops, and the others are 0
pub record IsRoute (xs : List ℕ) (n : ℕ) : Type 0 where
  pub short : n ≤ most_stops
  pub places : length xs ≡ most_stops
  pub stops : are_stops (take n xs) ≡ true
  pub rest : drop n xs ≡ zeros_behind n

-- so the length and the array are known from the stops
pub as_long : (xs : List ℕ) (n : ℕ) → IsRoute xs n → length (take n xs) ≡ n
as_long xs n r = length-take-le n xs (subst (λ m. n ≤ m) (sym r.places) r.short)

pub given_back : (xs : List ℕ) (n : ℕ) → IsRoute xs n → take n xs ++ zeros_behind (length (take n xs)) ≡ xs
given_back xs n r = (λ i. take n xs ++ zeros_behind (as_long xs n r i)) ∙ ap (λ q. take n xs ++ q) (sym r.rest) ∙ take-append-drop n xs
