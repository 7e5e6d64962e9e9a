use Rattle.std.proofs.Common.{◌++◌, length}
use Rattle.resource.specs.Days.{own_verdict}
use Rattle.resource.proofs.FirstDay.{found_unless_accepted, list_stays}
use Rattle.pair.specs.Sides.{pair_width, pair_extension, pair_verdict}
use Rattle.pair.proofs.PairResource.first_day.Goals as goal

pub returns : goal.returns
returns g c =
    let one = c.args.self.now.first in
    let two = c.args.self.now.second in
    let a = g.First.Resource.width one in
    let verdict = pair_verdict a (g.First.Resource.verdict one) (g.Second.Resource.verdict two) in
    let extension = pair_extension a (g.First.Resource.extension one) (g.Second.Resource.extension two) in
    let accepts = own_verdict verdict extension (g.First.Resource.start one ++ g.Second.Resource.start two) in
    let steps = c.args.steps.now in
    let marks = c.args.marks.now in
    let width = pair_width a (g.Second.Resource.width two) in
    let work = length c.args.work.now in
    let accepted = c.in_ok-accepted.accepted in
    let judged = c.in_ok-accepted.ensures in
    record { answer = found_unless_accepted accepts steps marks width work accepted judged; list = list_stays accepts steps marks width work accepted judged }
