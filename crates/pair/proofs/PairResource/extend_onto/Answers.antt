use Rattle.std.proofs.Common.{sym, ap, ◌∙◌}
use Rattle.resource.specs.Answers.{written}
use Rattle.pair.specs.Laws.{onto_extension}
use Rattle.pair.proofs.Calls.{split_tells, along, first_narrow, second_narrow, both_answer, both_row}
use Rattle.pair.proofs.PairResource.extend_onto.Goals as goal

pub returns : goal.returns
returns g c =
    let one = c.args.self.now.first in
    let two = c.args.self.now.second in
    let step = c.args.step.now in
    let marks = c.args.marks in
    let from = c.args.from.now in
    let onto = c.args.onto.now in
    let front = c.extend_onto.new.onto in
    let Split-from = split_tells c.in_ok-at.ensures in
    let split-onto = along Split-from (split_tells c.in_ok-split.ensures) in
    let kept = c.extend_onto.auto.onto in
    let r = c.extend_onto-2.result in
    let answered = c.extend_onto-2.ensures.answer in
    let lawful-one = g.met.First.Resource.lawful one (first_narrow Split-from) in
    let lawful-two = g.met.Second.Resource.lawful two (second_narrow Split-from) in
    record {
      answer = both_answer from onto front Split-from split-onto kept r answered;
      row = both_row from onto front Split-from split-onto kept r answered
          (λ u x. g.First.Resource.join one u (g.First.Resource.extension one step marks x)) (λ u x. g.Second.Resource.join two u (g.Second.Resource.extension two step marks x))
          c.extend_onto-2.new.onto c.in_ok-extend_onto.ensures.row c.extend_onto-2.ensures.row
          ∙ ap (λ new. written r new onto) (sym (onto_extension lawful-one lawful-two step marks from onto Split-from.wide));
    }
