use Rattle.pair.proofs.Calls.{split_tells, along, both_answer, both_row}
use Rattle.pair.proofs.PairResource.join_onto.Goals as goal

pub returns : goal.returns
returns g c =
    let from = c.args.from.now in
    let onto = c.args.onto.now in
    let front = c.join_onto.new.onto in
    let Split-from = split_tells c.in_ok-at.ensures in
    let split-onto = along Split-from (split_tells c.in_ok-split.ensures) in
    let kept = c.join_onto.auto.onto in
    let r = c.join_onto-2.result in
    let answered = c.join_onto-2.ensures.answer in
    record {
      answer = both_answer from onto front Split-from split-onto kept r answered;
      row = both_row from onto front Split-from split-onto kept r answered
          (g.First.Resource.join c.args.self.now.first) (g.Second.Resource.join c.args.self.now.second)
          c.join_onto-2.new.onto c.in_ok-join_onto.ensures.row c.join_onto-2.ensures.row;
    }
