use Rattle.std.proofs.Common.{length, take, is_some, ◌∙◌}
use Rattle.resource.specs.Answers.{day_answer, day_list}
use Rattle.resource.specs.Scenarios.{first_day}
use Rattle.pile.proofs.Keeping.{accepts_all, the_layers, the_width}
use Rattle.pile.proofs.product_first_day.Goals as goal

pub returns : goal.returns
returns c = record {
  answer = λ h opens is.
      let p = c.args.pile.now in
      c.first_day.ensures.answer
      ∙ (λ i. day_answer (the_width h opens p is i) (length c.args.steps.now) (length c.args.marks.now) (length c.args.work.now) (is_some (first_day (accepts_all h opens p is i) (the_layers h opens p is i) c.args.steps.now (take (length c.args.steps.now) c.args.marks.now))));
  list = λ h opens is.
      let p = c.args.pile.now in
      c.first_day.ensures.list
      ∙ (λ i. day_list c.first_day.result (first_day (accepts_all h opens p is i) (the_layers h opens p is i) c.args.steps.now (take (length c.args.steps.now) c.args.marks.now)) c.args.marks.now);
}
