-- Marks: one byte of classes for each step of a route. Assumes nothing.
use Rattle.std.specs.Prelude.{ℕ, List, [], ◌∷◌, bit_or}

-- two lists of marks over the same steps, taken together step by step
abbrev pub union : List ℕ → List ℕ → List ℕ
union [] ns = []
union (m ∷ ms) [] = m ∷ ms
union (m ∷ ms) (n ∷ ns) = bit_or m n ∷ union ms ns
