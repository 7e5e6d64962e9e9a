use Rattle.pair.proofs.Calls.{split_tells, both_judged}
use Rattle.pair.proofs.PairResource.judge.Goals as goal

pub returns : goal.returns
returns g c =
    both_judged c.args.row.now (g.First.Resource.verdict c.args.self.now.first) (g.Second.Resource.verdict c.args.self.now.second) c.in_ok-first.first c.in_ok-second.second
    (split_tells c.in_ok-at.ensures) c.in_ok-first.ensures c.in_ok-second.ensures
