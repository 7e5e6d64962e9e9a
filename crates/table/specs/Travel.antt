-- Planned travel: the travel of all steps of all routes, without deviations; and what a change adds to it. Assumes nothing.
use Rattle.std.specs.Prelude.{ℕ, List, sum_by, ℤ, pos, ◌-ℤ◌}
use Rattle.records.specs.declared.Stop.{Stop}
use Rattle.records.specs.declared.Leg.{Leg}
use Rattle.records.specs.declared.step.Step.{Step}
use Rattle.records.specs.Steps.{steps_of}
use Rattle.table.specs.Routes.{Routes}

abbrev pub travel_of : List Step → ℕ
travel_of ss = sum_by (λ s. s.leg.travel) ss

abbrev pub planned_travel : List Stop → List Leg → Routes → ℕ
planned_travel ss ls rs = sum_by (λ r. travel_of (steps_of ss ls r)) rs

-- what a change adds: planned travel after it less that before, with its sign
abbrev pub added : List Stop → List Leg → Routes → Routes → ℤ
added ss ls before after = pos (planned_travel ss ls after) -ℤ pos (planned_travel ss ls before)
