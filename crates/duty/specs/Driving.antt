-- The driving time since the last rest: what a step with its marks makes of it. Assumes nothing.
use Rattle.std.specs.Prelude.{ℕ, ◌+◌, Bool, cond, List, [], ◌∷◌, ◌==◌, nat_le, slice_index}
use Rattle.records.specs.declared.step.Step.{Step}
use Rattle.resource.specs.Rows.{Extension}
use Rattle.resource.specs.Scenarios.{Accepts}
use Rattle.resource.specs.Days.{throughout}
use Rattle.resource.specs.Figures.{travel}
use Rattle.resource.specs.Words.{recursion}

-- the greatest limit of the driving time
abbrev pub greatest_limit : ℕ
greatest_limit = 100000

-- the driving time in a row of one word
abbrev pub driven_of : List ℕ → ℕ
driven_of row = slice_index row 0

-- the driving time at the arrival, before any rest
abbrev pub driven : Step → ℕ → ℕ → ℕ
driven s m before = before + travel s m

-- the driving time after the stop: none where the driver rests there
abbrev pub after_stop : Step → ℕ → ℕ → ℕ
after_stop s m before = cond (s.stop.rest == 0) (driven s m before) 0

-- the driving time is asked about at the arrival, at a rest stop too
abbrev pub within_limit : ℕ → Step → ℕ → ℕ → Bool
within_limit limit s m before = nat_le (driven s m before) limit

-- the row, broken where the van is driven for too long
abbrev pub driving : ℕ → Extension
driving limit = recursion (λ s m row. within_limit limit s m (driven_of row)) (λ s m row. after_stop s m (driven_of row) ∷ [])

-- on no stretch of the route, with its marks, is the van driven for longer than the limit without a rest
abbrev pub rests_in_time : ℕ → Accepts
rests_in_time limit = throughout (within_limit limit) after_stop 0
