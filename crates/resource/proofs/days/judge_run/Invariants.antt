use Rattle.std.proofs.Common.{◌≡◌, ◌≤◌, length}
use Rattle.resource.specs.Rows.{run}
use Rattle.resource.proofs.days.judge_run.Given as goal

-- the steps that are left make of the row what all make of the start row
abbrev pub invariant-loop-step : goal.invariant-loop-step
invariant-loop-step g l =
    let r = g.R.Unlayered in
    record {
      wide : length l.row ≡ r.width l.resource;
      marked : length l.step-iterator.a.rest.now ≤ length l.step-iterator.b.rest.now;
      sofar : run (r.extension l.resource) l.step-iterator.a.rest.now l.step-iterator.b.rest.now l.row ≡ run (r.extension l.resource) l.steps l.marks (r.start l.resource);
    }
