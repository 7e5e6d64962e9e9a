-- Rows that are joined word by word, the ceiling of a word, and the broken row. Assumes nothing.
use Rattle.std.specs.Prelude.{ℕ, max, Bool, true, cond, ◌&&◌, List, [], ◌∷◌, length, replicate, nat_le}
use Rattle.records.specs.declared.step.Step.{Step}
use Rattle.resource.specs.Rows.{Extension}

-- the greatest word of a row that is not broken
abbrev pub ceiling : ℕ
ceiling = 1000000000

-- the word that fills a broken row: the greatest of 32 bits, so that a join with a broken row is broken
abbrev pub broken_word : ℕ
broken_word = 4294967295

-- the broken row of a width
abbrev pub broken : ℕ → List ℕ
broken width = replicate width broken_word

-- the greater word at each place
abbrev pub greater : List ℕ → List ℕ → List ℕ
greater [] ys = []
greater (x ∷ xs) [] = []
greater (x ∷ xs) (y ∷ ys) = max x y ∷ greater xs ys

-- no word is above the ceiling
abbrev pub sound : List ℕ → Bool
sound [] = true
sound (x ∷ xs) = nat_le x ceiling && sound xs

-- the row where a test holds, else the broken row of its width
abbrev pub unless_broken : Bool → List ℕ → List ℕ
unless_broken holds row = cond holds row (broken (length row))

-- A recursion over rows: a row with a word above the ceiling extends to the broken row, and so does one that the step
-- with its marks does not admit; every other to the next row.
abbrev pub recursion : (Step → ℕ → List ℕ → Bool) → (Step → ℕ → List ℕ → List ℕ) → Extension
recursion admits next s m row = unless_broken (sound row && admits s m row) (next s m row)
