use Rattle.std.proofs.Common.{length, ap, ◌∙◌}
use Rattle.resource.proofs.Runs.{joined_answer}
use Rattle.resource.proofs.recursion.AnyResource.extend_onto.Goals as goal

pub returns-clause-answer : goal.returns-clause-answer
returns-clause-answer g c =
    let made = c.in_ok-row.ensures in
    let wide = (g.met.R.Recursion.lawful c.args.self.now).extension_width c.args.step.now c.args.marks c.args.from.now made.0 in
    joined_answer _ _ _ _ _ _ c.WIDTH.ensures (ap length (c.as_row.ensures ∙ made.1) ∙ wide) made.0 c.join_words.ensures.answer
