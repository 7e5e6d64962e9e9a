-- What calls that change rows one by one leave. Assumes nothing.
use Rattle.std.specs.Prelude.{◌≡◌, ℕ, ◌<◌, List}
use denote.Ref.{MutBor}
use Rattle.layered.specs.Layered.{row_at}

-- what a call may make of a row
abbrev pub May : Type 1
May = MutBor (List ℕ) → Unit {0} → MutBor (List ℕ) → Type 0

-- the call found the row `old` and left the row `new`
pub record Did (may : May) (old new : List ℕ) : Type 0 where
  pub found : MutBor (List ℕ)
  pub finds : found.now ≡ old
  pub left : MutBor (List ℕ)
  pub leaves : left.now ≡ new
  pub met : may found tt left

-- each of the first n rows was changed by a call of its own
abbrev pub EachDone : (ℕ → May) → ℕ → ℕ → List ℕ → List ℕ → Type 0
EachDone may w n old new = (g : ℕ) → g < n → Did (may g) (row_at w old g) (row_at w new g)
