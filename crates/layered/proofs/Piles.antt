-- A layer over a resource that judges every scenario does so too, and finds its first day. Assumes nothing.
use Rattle.std.proofs.Common.{◌≡◌, ℕ, Bool, true, false, not, List, ◌∷◌, map, length, is_some, Some, None, sym, ap, ◌∙◌, arith}
use Rattle.records.specs.declared.step.Step.{Step}
use Rattle.resource.specs.Marks.{union}
use Rattle.resource.specs.Rows.{Extension, Lawful, run}
use Rattle.resource.specs.Scenarios.{Budget, Accepts, scenarios, first_failing, survives, first_day}
use Rattle.layered.specs.Layered.{Join, layered_start, layered_extension, layered_verdict}
use Rattle.layered.specs.Days.{days, accepted, chosen}
use Rattle.layered.proofs.Runs.{every_map, verdict_of_run}
use Rattle.layered.proofs.Unions.{every_each, length-days, survives_by_days}
use Rattle.layered.proofs.FirstDays.{none_failing, failing_each, failing_fails, first_chosen, first_day_by_days, is_some-first_day}

-- the law that a verdict judges every scenario
abbrev pub Judges : List ℕ → Extension → (List ℕ → Bool) → List Budget → Accepts → Type 0
Judges start ext verdict bs accepts = (ss : List Step) (ms : List ℕ) → length ms ≡ length ss → verdict (run ext ss ms start) ≡ survives accepts bs ss ms

module _ (start : List ℕ) (ext : Extension) (verdict : List ℕ → Bool) (bs : List Budget) (accepts : Accepts) (judges : Judges start ext verdict bs accepts) (b : Budget) where
  module _ (ss : List Step) (ms : List ℕ) (same : length ms ≡ length ss) where
    -- the layer's days, by the verdict below, are those that the scenarios speak of
    pub survives-accepted : accepted ext verdict b.class ss ms start b.most ≡ survives accepts (b ∷ bs) ss ms
    survives-accepted =
        every_each (λ d. length d ≡ length ms) _ _ (λ d long. judges ss d (long ∙ same)) (days b.class b.most ms) (length-days b.class b.most ms)
        ∙ sym (survives_by_days accepts b bs ss ms same)

    pub no_day : accepted ext verdict b.class ss ms start b.most ≡ true → first_day accepts (b ∷ bs) ss ms ≡ None
    no_day all =
        none_failing (accepts ss) (map (union ms) (scenarios (b ∷ bs) (length ss)))
        (every_map (accepts ss) (union ms) (scenarios (b ∷ bs) (length ss)) ∙ sym survives-accepted ∙ all)

    module _ (refused : accepted ext verdict b.class ss ms start b.most ≡ false) where
      abbrev day : List ℕ
      day = chosen ext verdict b.class ss ms start b.most

      first_refused : first_failing (survives accepts bs ss) (days b.class b.most ms) ≡ Some day
      first_refused =
          sym (failing_each (λ d. length d ≡ length ms) _ _ (λ d long. judges ss d (long ∙ same)) (days b.class b.most ms) (length-days b.class b.most ms))
          ∙ first_chosen ext verdict b.class ss ms start b.most same refused

      -- the layer's own marks chosen, the pile below has the rest
      pub first_day-chosen : first_day accepts (b ∷ bs) ss ms ≡ first_day accepts bs ss day
      first_day-chosen = first_day_by_days accepts b bs ss ms same day first_refused

      pub chosen_found : is_some (first_day accepts bs ss day) ≡ true
      chosen_found =
          is_some-first_day accepts bs ss day
          ∙ ap not (failing_fails (survives accepts bs ss) (days b.class b.most ms) day first_refused)

  pub layered_judges : {w : ℕ} {join : Join} → Lawful w start ext join verdict
      → Judges (layered_start b.most start) (layered_extension b.class b.most w ext join) (layered_verdict b.most w verdict) (b ∷ bs) accepts
  layered_judges laws ss ms same =
      verdict_of_run laws b.class b.most ss ms start same laws.start_width b.most (omega arith) ∙ survives-accepted ss ms same
