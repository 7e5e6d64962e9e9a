-- What a resource that is no layer accepts, and tests that hold all along a route. Assumes nothing.
use Rattle.std.specs.Prelude.{ℕ, Bool, true, ◌&&◌, List, [], ◌∷◌}
use Rattle.records.specs.declared.step.Step.{Step}
use Rattle.resource.specs.Rows.{Extension, run}
use Rattle.resource.specs.Scenarios.{Accepts}

-- its own verdict on the row that the steps with their marks make of the start row
abbrev pub own_verdict : (List ℕ → Bool) → Extension → List ℕ → Accepts
own_verdict verdict extension start ss ms = verdict (run extension ss ms start)

-- a test holds at every step of a route, of what the steps before it have made of x; a step past the marks is unmarked
abbrev pub throughout : {X : Type 0} → (Step → ℕ → X → Bool) → (Step → ℕ → X → X) → X → List Step → List ℕ → Bool
throughout holds next x [] ms = true
throughout holds next x (s ∷ ss) [] = holds s 0 x && throughout holds next (next s 0 x) ss []
throughout holds next x (s ∷ ss) (m ∷ ms) = holds s m x && throughout holds next (next s m x) ss ms
