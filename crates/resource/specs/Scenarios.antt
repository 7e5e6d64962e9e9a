-- Scenarios: which steps the budget layers of a pile mark, in the order in which days are compared. Assumes nothing.
use Rattle.std.specs.Prelude.{ℕ, zero, suc, Bool, true, false, cond, ◌&&◌, List, [], ◌∷◌, ◌++◌, map, length, replicate, Some, None, Option}
use Rattle.std.specs.List.{flat_map}
use Rattle.records.specs.declared.step.Step.{Step}
use Rattle.resource.specs.Marks.{union}

-- a budget layer: its class, and the most steps of a route that it marks
pub record Budget : Type 0 where
  pub class : ℕ
  pub most : ℕ

-- The sets of at most g of n steps, each as a test for each step. Of two sets, the one that lacks the first step on
-- which they differ comes first.
abbrev pub sets : ℕ → ℕ → List (List Bool)
sets zero g = [] ∷ []
sets (suc n) zero = map (λ s. false ∷ s) (sets n zero)
sets (suc n) (suc g) = map (λ s. false ∷ s) (sets n (suc g)) ++ map (λ s. true ∷ s) (sets n g)

-- the marks that a class puts on a set of steps
abbrev pub marking : ℕ → List Bool → List ℕ
marking c s = map (λ b. cond b c 0) s

-- The scenarios of a pile on n steps, each as its marks: ordered by the outermost layer's set, then by the next one down.
-- With no layer there is one, unmarked.
abbrev pub scenarios : List Budget → ℕ → List (List ℕ)
scenarios [] n = replicate n 0 ∷ []
scenarios (b ∷ bs) n = flat_map (λ s. map (union (marking b.class s)) (scenarios bs n)) (sets n b.most)

-- the test passes in every one of a list
abbrev pub every : {X : Type 0} → (X → Bool) → List X → Bool
every p [] = true
every p (x ∷ xs) = p x && every p xs

-- the first of a list that fails the test
abbrev pub first_failing : {X : Type 0} → (X → Bool) → List X → Option X
first_failing p [] = None
first_failing p (x ∷ xs) = cond (p x) (first_failing p xs) (Some x)

-- what the resource under a pile says of steps with marks: whether it accepts them
abbrev pub Accepts : Type 0
Accepts = List Step → List ℕ → Bool

-- the resource under the pile accepts the steps in every scenario, the marks given counting in each
abbrev pub survives : Accepts → List Budget → List Step → List ℕ → Bool
survives accepts bs ss ms = every (λ s. accepts ss (union ms s)) (scenarios bs (length ss))

-- the marks of the first scenario in which the steps are refused, joined with those given; none where there is no such day
abbrev pub first_day : Accepts → List Budget → List Step → List ℕ → Option (List ℕ)
first_day accepts bs ss ms = first_failing (accepts ss) (map (union ms) (scenarios bs (length ss)))
