-- A layer that is not too wide is as wide as its rows together, and what is below it is not too wide. Assumes nothing.
use Rattle.std.proofs.Common.{◌≡◌, ℕ, suc, ◌+◌, ◌*◌, ◌≤◌, Bool, leb, List, ◌∙◌, ⊎_elim, suc-mul, add-mul, add-one, arith}
use Rattle.std.proofs.lemmas.Bool.{cases_Bool, cond-true, cond-false, leb-true, le-leb}
use Rattle.resource.specs.Rows.{Extension, Lawful, widest}
use Rattle.layered.specs.Layered.{Join, layered_width}

pub record Fits (most w : ℕ) : Type 0 where
  pub narrow : suc most * w ≤ widest
  pub below : w ≤ widest
  pub whole : layered_width most w ≡ suc most * w

pub fits : (most w : ℕ) → layered_width most w ≤ widest → Fits most w
fits most w h =
    ⊎_elim
    (λ t. let n : suc most * w ≤ widest = leb-true (suc most * w) widest t in
    record { narrow = n; below = omega (arith, suc-mul most w); whole = cond-true (leb (suc most * w) widest) _ _ t })
    (λ f. absurd (omega (arith, cond-false (leb (suc most * w) widest) (suc most * w) (suc widest) f)))
    (cases_Bool (leb (suc most * w) widest))

-- the laws of what is below, where the layer is not too wide
pub laws_below : {width : ℕ} {start : List ℕ} {ext : Extension} {join : Join} {verdict : List ℕ → Bool} (w most : ℕ)
    → (width ≤ widest → Lawful width start ext join verdict) → w ≡ width → suc most * w ≤ widest → Lawful w start ext join verdict
laws_below w most laws same narrow = rw same (laws (omega (arith, suc-mul most w)))

-- the width as the code counts it
pub counted : (most wide w : ℕ) → wide ≡ w → (most + 1) * wide ≤ widest → layered_width most w ≡ (most + 1) * wide
counted most wide w same narrow =
    let n : suc most * w ≤ widest = rw (← same, ← add-one most) narrow in
    cond-true (leb (suc most * w) widest) _ _ (le-leb (suc most * w) widest n) ∙ rw (same, add-one most)

pub counted_below : (most wide w : ℕ) → wide ≡ w → (most + 1) * wide ≤ widest → w ≤ widest
counted_below most wide w same narrow = omega (arith, add-mul most 1 wide)
