-- A budget layer over a resource whose rows have w words: the layer's row, start, extension, join and verdict. The budget
-- is that of Bertsimas and Sim (2004): at most so many steps of a route deviate. Assumes nothing.
use Rattle.std.specs.Prelude.{ℕ, zero, suc, ◌*◌, Bool, cond, List, [], ◌++◌, take, drop, bit_or, nat_le}
use Rattle.records.specs.declared.step.Step.{Step}
use Rattle.resource.specs.Rows.{Extension, widest}

-- two rows in one
abbrev pub Join : Type 0
Join = List ℕ → List ℕ → List ℕ

-- a row of the resource below for each number
abbrev pub Numbered : Type 0
Numbered = ℕ → List ℕ

-- row number g of a layer's row
abbrev pub row_at : ℕ → List ℕ → Numbered
row_at w x g = take w (drop (g * w) x)

-- the first n rows, one behind the other
abbrev pub rows : ℕ → Numbered → List ℕ
rows zero f = []
rows (suc n) f = rows n f ++ f n

-- a layer with budget `most` has the rows 0 to `most`; the width above the widest means too wide
abbrev pub layered_width : ℕ → ℕ → ℕ
layered_width most w = cond (nat_le (suc most * w) widest) (suc most * w) (suc widest)

-- each row joined with the one of another kind that has one number less; row 0 stays
abbrev pub join_lower : Join → Numbered → Numbered → Numbered
join_lower join f lower zero = f zero
join_lower join f lower (suc g) = join (f (suc g)) (lower g)

-- Row number g after a step with marks m: the old row g without the class, joined with the old row g - 1 with it.
abbrev pub next_row : Extension → Join → ℕ → Step → ℕ → Numbered → Numbered
next_row ext join class s m old = join_lower join (λ g. ext s m (old g)) (λ g. ext s (bit_or m class) (old g))

-- at the start each row is the start below
abbrev pub layered_start : ℕ → List ℕ → List ℕ
layered_start most start = rows (suc most) (λ g. start)

abbrev pub layered_extension : ℕ → ℕ → ℕ → Extension → Join → Extension
layered_extension class most w ext join s m x = rows (suc most) (next_row ext join class s m (row_at w x))

-- rows are joined number by number
abbrev pub layered_join : ℕ → ℕ → Join → Join
layered_join most w join x y = rows (suc most) (λ g. join (row_at w x g) (row_at w y g))

-- the verdict is that of the resource below on the last row
abbrev pub layered_verdict : ℕ → ℕ → (List ℕ → Bool) → List ℕ → Bool
layered_verdict most w verdict x = verdict (row_at w x most)
