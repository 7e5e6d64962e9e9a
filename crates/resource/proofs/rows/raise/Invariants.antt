use Rattle.std.proofs.Common.{◌≡◌, ◌++◌, take, drop}
use Rattle.resource.specs.Words.{greater}
use Rattle.resource.proofs.rows.raise.Given as goal

-- what is joined so far, with the join of what is left
abbrev pub invariant-loop-i : goal.invariant-loop-i
invariant-loop-i l = take l.i l.onto ++ greater (drop l.i l.onto) (drop l.i l.from) ≡ greater l.initial.onto l.from
