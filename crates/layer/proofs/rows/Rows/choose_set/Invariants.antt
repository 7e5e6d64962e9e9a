use Rattle.std.proofs.Common.{◌≤◌}
use Rattle.layered.specs.Days.{chosen}
use Rattle.layered.proofs.Choosing.{Choosing}
use Rattle.layer.proofs.rows.Rows.choose_set.Given as goal

abbrev pub invariant-loop-i : goal.invariant-loop-i
invariant-loop-i g l =
    let e = g.B.Resource.extension l.self.layer.now.below in
    let v = g.B.Resource.verdict l.self.layer.now.below in
    (l.left ≤ l.self.layer.now.budget)
    × Choosing e v l.self.layer.now.class l.steps (chosen e v l.self.layer.now.class l.steps l.initial.marks l.initial.row l.self.layer.now.budget) l.marks l.row l.i l.left
