-- Rows, what a route's steps make of one, and the laws that a resource keeps. Assumes nothing.
use Rattle.std.specs.Prelude.{◌≡◌, ℕ, Bool, true, ◌&&◌, List, [], ◌∷◌, length}
use Rattle.records.specs.declared.step.Step.{Step}

-- an extension: what a step with its marks makes of a row
abbrev pub Extension : Type 0
Extension = Step → ℕ → List ℕ → List ℕ

-- what a list of steps with their marks makes of a row; a step past the marks is unmarked
abbrev pub run : Extension → List Step → List ℕ → List ℕ → List ℕ
run ext [] ms row = row
run ext (s ∷ ss) [] row = run ext ss [] (ext s 0 row)
run ext (s ∷ ss) (m ∷ ms) row = run ext ss ms (ext s m row)

-- the widest row that a resource may have; the width above it means too wide
abbrev pub widest : ℕ
widest = 4096

-- What a resource that is not too wide keeps, for all rows of its width, all steps and all marks.
pub record Lawful (width : ℕ) (start : List ℕ) (extension : Extension) (join : List ℕ → List ℕ → List ℕ) (verdict : List ℕ → Bool) : Type 0 where
  pub start_width : length start ≡ width
  pub extension_width : (s : Step) (m : ℕ) (x : List ℕ) → length x ≡ width → length (extension s m x) ≡ width
  pub join_width : (x y : List ℕ) → length x ≡ width → length y ≡ width → length (join x y) ≡ width
  pub join_associative : (x y z : List ℕ) → length x ≡ width → length y ≡ width → length z ≡ width → join (join x y) z ≡ join x (join y z)
  pub join_commutative : (x y : List ℕ) → length x ≡ width → length y ≡ width → join x y ≡ join y x
  pub extension_of_join : (s : Step) (m : ℕ) (x y : List ℕ) → length x ≡ width → length y ≡ width → extension s m (join x y) ≡ join (extension s m x) (extension s m y)
  pub verdict_of_join : (x y : List ℕ) → length x ≡ width → length y ≡ width → verdict (join x y) ≡ (verdict x && verdict y)
  pub verdict_of_start : verdict start ≡ true
