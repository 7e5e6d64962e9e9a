-- Days: the marks that one layer's sets make of the marks given, and which of them its first refused set makes. Assumes nothing.
use Rattle.std.specs.Prelude.{◌≡◌, ℕ, zero, suc, pred, ◌≤◌, Bool, false, cond, List, [], ◌∷◌, ◌++◌, map, take, drop, bit_or}
use Rattle.records.specs.declared.step.Step.{Step}
use Rattle.resource.specs.Rows.{Extension, run}
use Rattle.resource.specs.Scenarios.{every}

-- the marks given with a class added on each set of at most g of the steps, in the order of the sets
abbrev pub days : ℕ → ℕ → List ℕ → List (List ℕ)
days class g [] = [] ∷ []
days class zero (m ∷ ms) = map (λ d. m ∷ d) (days class zero ms)
days class (suc g) (m ∷ ms) = map (λ d. m ∷ d) (days class (suc g) ms) ++ map (λ d. bit_or m class ∷ d) (days class g ms)

-- the resource below accepts on each of these days what the steps make of a row
abbrev pub accepted : Extension → (List ℕ → Bool) → ℕ → List Step → List ℕ → List ℕ → ℕ → Bool
accepted ext verdict class ss ms x g = every (λ d. verdict (run ext ss d x)) (days class g ms)

-- The first day that is refused, step by step: a step stays without the class where some such day is refused, else it
-- takes the class and one of the budget.
abbrev pub chosen : Extension → (List ℕ → Bool) → ℕ → List Step → List ℕ → List ℕ → ℕ → List ℕ
chosen ext verdict class [] ms x g = ms
chosen ext verdict class (s ∷ ss) [] x g = []
chosen ext verdict class (s ∷ ss) (m ∷ ms) x g =
    cond (accepted ext verdict class ss ms (ext s m x) g) (bit_or m class ∷ chosen ext verdict class ss ms (ext s (bit_or m class) x) (pred g)) (m ∷ chosen ext verdict class ss ms (ext s m x) g)

-- One step of that choice: what is left of the budget, of the marks and of the row after the first step has its marks.
pub record Chose (ext : Extension) (verdict : List ℕ → Bool) (class : ℕ) (ss : List Step) (ms x : List ℕ) (g : ℕ) (ms' x' : List ℕ) (g' : ℕ) : Type 0 where
  pub within : g' ≤ g
  pub rest : drop 1 ms' ≡ drop 1 ms
  pub refused : accepted ext verdict class (drop 1 ss) (drop 1 ms') x' g' ≡ false
  pub day : chosen ext verdict class ss ms x g ≡ take 1 ms' ++ chosen ext verdict class (drop 1 ss) (drop 1 ms') x' g'
