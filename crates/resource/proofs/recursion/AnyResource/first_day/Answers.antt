use Rattle.std.proofs.Common.{length}
use Rattle.resource.specs.Days.{own_verdict}
use Rattle.resource.specs.Words.{sound}
use Rattle.resource.proofs.FirstDay.{found_unless_accepted, list_stays}
use Rattle.resource.proofs.recursion.AnyResource.first_day.Goals as goal

pub returns-clause-answer : goal.returns-clause-answer
returns-clause-answer g c =
    let r = g.R.Recursion in
    let self = c.args.self.now in
    found_unless_accepted (own_verdict sound (r.extension self) (r.begins self)) c.args.steps.now c.args.marks.now g.R.Row.Words.WIDTH (length c.args.work.now) c.in_ok-accepted.accepted c.in_ok-accepted.ensures

pub returns-clause-list : goal.returns-clause-list
returns-clause-list g c =
    let r = g.R.Recursion in
    let self = c.args.self.now in
    list_stays (own_verdict sound (r.extension self) (r.begins self)) c.args.steps.now c.args.marks.now g.R.Row.Words.WIDTH (length c.args.work.now) c.in_ok-accepted.accepted c.in_ok-accepted.ensures
