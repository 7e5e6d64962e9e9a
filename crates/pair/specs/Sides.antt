-- Two resources side by side: their rows one behind the other, each side extended, joined and judged for itself. Assumes
-- nothing.
use Rattle.std.specs.Prelude.{ℕ, ◌+◌, Bool, cond, ◌&&◌, List, ◌++◌, take, drop, nat_le}
use Rattle.resource.specs.Rows.{Extension, widest}
use Rattle.resource.specs.Scenarios.{Accepts}

-- the width of a pair; 4,097 means too wide
abbrev pub pair_width : ℕ → ℕ → ℕ
pair_width a b = cond (nat_le (a + b) widest) (a + b) 4097

-- the first words of a pair's row, as many as the first side is wide, are the first side's row
module _ (width : ℕ) where
  abbrev pub pair_extension : Extension → Extension → Extension
  pair_extension first second s m row = first s m (take width row) ++ second s m (drop width row)

  abbrev pub pair_join : (List ℕ → List ℕ → List ℕ) → (List ℕ → List ℕ → List ℕ) → List ℕ → List ℕ → List ℕ
  pair_join first second x y = first (take width x) (take width y) ++ second (drop width x) (drop width y)

  -- the verdict needs both
  abbrev pub pair_verdict : (List ℕ → Bool) → (List ℕ → Bool) → List ℕ → Bool
  pair_verdict first second row = first (take width row) && second (drop width row)

-- both sides accept a route with its marks
abbrev pub both_accept : Accepts → Accepts → Accepts
both_accept first second ss ms = first ss ms && second ss ms
