-- A resource that is no layer has one scenario, unmarked: it survives by the marks given alone. Assumes nothing.
use Rattle.std.specs.Prelude.{◌≡◌, ℕ, Bool, true, false, ◌&&◌, List, [], ◌∷◌, length, replicate, refl}
use Rattle.std.proofs.Common.{sym, ap, ◌∙◌}
use lib.Bits.{or_zero_r}
use Rattle.records.specs.declared.step.Step.{Step}
use Rattle.resource.specs.Marks.{union}
use Rattle.resource.specs.Scenarios.{Accepts, survives}

-- no mark changes nothing
pub union_unmarked : (ms : List ℕ) → union ms (replicate (length ms) 0) ≡ ms
union_unmarked [] = refl
union_unmarked (m ∷ ms) = ap (λ n. n ∷ union ms (replicate (length ms) 0)) (or_zero_r m) ∙ ap (λ ns. m ∷ ns) (union_unmarked ms)

pub unmarked : {X : Type 0} (ms : List ℕ) (xs : List X) → length ms ≡ length xs → union ms (replicate (length xs) 0) ≡ ms
unmarked ms xs e = ap (λ n. union ms (replicate n 0)) (sym e) ∙ union_unmarked ms

and_true : (b : Bool) → (b && true) ≡ b
and_true true = refl
and_true false = refl

pub survives_unmarked : (accepts : Accepts) (ss : List Step) (ms : List ℕ) → length ms ≡ length ss → survives accepts [] ss ms ≡ accepts ss ms
survives_unmarked accepts ss ms e = and_true (accepts ss (union ms (replicate (length ss) 0))) ∙ ap (accepts ss) (unmarked ms ss e)
