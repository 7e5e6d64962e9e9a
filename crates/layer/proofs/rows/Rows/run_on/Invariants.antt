use Rattle.std.proofs.Common.{◌≡◌, ◌*◌, suc, length}
use Rattle.resource.specs.Rows.{run}
use Rattle.layered.specs.Layered.{layered_extension}
use Rattle.layer.proofs.rows.Rows.run_on.Given as goal

-- the steps that are left make of the row what all make of the first one
abbrev pub invariant-loop-step : goal.invariant-loop-step
invariant-loop-step g l =
    let on = l.self.layer.now in
    let ext = layered_extension on.class on.budget l.self.wide (g.B.Resource.extension on.below) (g.B.Resource.join on.below) in
    record {
      long : length l.state ≡ suc on.budget * l.self.wide;
      marked : length l.step-iterator.b.rest.now ≡ length l.step-iterator.a.rest.now;
      sofar : run ext l.step-iterator.a.rest.now l.step-iterator.b.rest.now l.state ≡ run ext l.steps l.marks l.initial.state;
    }
