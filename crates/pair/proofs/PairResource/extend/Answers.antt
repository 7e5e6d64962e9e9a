use Rattle.pair.proofs.Calls.{split_tells, along, both_answer, both_row}
use Rattle.pair.proofs.PairResource.extend.Goals as goal

pub returns : goal.returns
returns g c =
    let step = c.args.step.now in
    let marks = c.args.marks in
    let from = c.args.from.now in
    let into = c.args.into.now in
    let front = c.extend.new.into in
    let Split-from = split_tells c.in_ok-at.ensures in
    let split-into = along Split-from (split_tells c.in_ok-split.ensures) in
    let kept = c.extend.auto.into in
    let r = c.extend-2.result in
    let answered = c.extend-2.ensures.answer in
    record {
      answer = both_answer from into front Split-from split-into kept r answered;
      row = both_row from into front Split-from split-into kept r answered
          (λ _. g.First.Resource.extension c.args.self.now.first step marks) (λ _. g.Second.Resource.extension c.args.self.now.second step marks)
          c.extend-2.new.into c.in_ok-extend.ensures.row c.extend-2.ensures.row;
    }
