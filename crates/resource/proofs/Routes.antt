-- A recursion accepts a route exactly where it admits every step of it. Assumes nothing.
use Rattle.std.proofs.Common.{◌≡◌, ℕ, suc, Bool, true, false, ◌&&◌, List, [], ◌∷◌, sym, refl, ap, ◌∙◌, ⊎_elim}
use Rattle.std.proofs.lemmas.Bool.{and_from, and_right, cases_Bool}
use Rattle.records.specs.declared.step.Step.{Step}
use Rattle.resource.specs.Rows.{run}
use Rattle.resource.specs.Days.{throughout}
use Rattle.resource.specs.Words.{broken, sound, unless_broken, recursion}
use Rattle.resource.proofs.Joins.{Joinable}

module _ {k : ℕ} {admits : Step → ℕ → List ℕ → Bool} {next : Step → ℕ → List ℕ → List ℕ} (joinable : Joinable (suc k) admits next) where
  -- a broken row stays broken
  broken_run : (ss : List Step) (ms : List ℕ) → sound (run (recursion admits next) ss ms (broken (suc k))) ≡ false
  broken_run [] ms = refl
  broken_run (s ∷ ss) [] = ap (λ n. sound (run (recursion admits next) ss [] (broken n))) (joinable.next_width s 0 (broken (suc k))) ∙ broken_run ss []
  broken_run (s ∷ ss) (m ∷ ms) = ap (λ n. sound (run (recursion admits next) ss ms (broken n))) (joinable.next_width s m (broken (suc k))) ∙ broken_run ss ms

  -- x is what a row holds
  module _ {X : Type 0} (row : X → List ℕ) (holds : Step → ℕ → X → Bool) (step : Step → ℕ → X → X) (admits-is : (s : Step) (m : ℕ) (x : X) → admits s m (row x) ≡ holds s m x) (next-is : (s : Step) (m : ℕ) (x : X) → next s m (row x) ≡ row (step s m x)) where
    admitted : (s : Step) (m : ℕ) (x : X) → sound (row x) ≡ true → holds s m x ≡ true → recursion admits next s m (row x) ≡ row (step s m x)
    admitted s m x low h = ap (λ b. unless_broken b (next s m (row x))) (and_from _ _ low (admits-is s m x ∙ h)) ∙ next-is s m x

    refused : (s : Step) (m : ℕ) (x : X) → holds s m x ≡ false → recursion admits next s m (row x) ≡ broken (suc k)
    refused s m x h = ap (λ b. unless_broken b (next s m (row x))) (and_right (sound (row x)) _ (admits-is s m x ∙ h)) ∙ ap broken (joinable.next_width s m (row x))

    one_step : (s : Step) (m : ℕ) (ss : List Step) (ms : List ℕ) (x : X) → sound (row x) ≡ true → ((y : X) → sound (row y) ≡ true → sound (run (recursion admits next) ss ms (row y)) ≡ throughout holds step y ss ms) → sound (run (recursion admits next) ss ms (recursion admits next s m (row x))) ≡ (holds s m x && throughout holds step (step s m x) ss ms)
    one_step s m ss ms x low later =
        ⊎_elim
        (λ h. ap (λ r. sound (run (recursion admits next) ss ms r)) (admitted s m x low h)
        ∙ later (step s m x) (ap sound (sym (next-is s m x)) ∙ joinable.next_sound s m (row x) (admits-is s m x ∙ h))
        ∙ sym (ap (λ b. b && throughout holds step (step s m x) ss ms) h))
        (λ h. ap (λ r. sound (run (recursion admits next) ss ms r)) (refused s m x h) ∙ broken_run ss ms
        ∙ sym (ap (λ b. b && throughout holds step (step s m x) ss ms) h))
        (cases_Bool (holds s m x))

    pub run_throughout : (ss : List Step) (ms : List ℕ) (x : X) → sound (row x) ≡ true → sound (run (recursion admits next) ss ms (row x)) ≡ throughout holds step x ss ms
    run_throughout [] ms x low = low
    run_throughout (s ∷ ss) [] x low = one_step s 0 ss [] x low (run_throughout ss [])
    run_throughout (s ∷ ss) (m ∷ ms) x low = one_step s m ss ms x low (run_throughout ss ms)
