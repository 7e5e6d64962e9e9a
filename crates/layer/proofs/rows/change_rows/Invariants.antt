use Rattle.layer.proofs.Changing.{Sofar}
use Rattle.layer.proofs.rows.change_rows.Given as goal

abbrev pub invariant-loop-g : goal.invariant-loop-g
invariant-loop-g g l = Sofar (goal.F-post g l.change) l.wide l.count l.initial.rows l.rows l.g
