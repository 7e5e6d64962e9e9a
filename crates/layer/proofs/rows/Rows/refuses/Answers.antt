use Rattle.std.proofs.Common.{not, eqb, length, sym, ap, ◌∙◌, arith}
use Rattle.resource.specs.Rows.{run}
use Rattle.layered.specs.Layered.{row_at, layered_extension}
use Rattle.layered.proofs.Runs.{verdict_of_run}
use Rattle.layered.proofs.Widths.{laws_below}
use Rattle.layer.proofs.Answered.{granted}
use Rattle.layer.proofs.rows.Rows.refuses.Goals as goal

pub returns : goal.returns
returns g c =
    let l = c.args.self.now.layer.now in
    let w = c.args.self.now.wide in
    let law = laws_below w l.budget (g.met.B.Resource.lawful l.below) c.args.self.now.below c.args.self.now.narrow in
    let part = c.row.result.now in
    let below = g.B.Resource.width l.below in
    let judged = granted below (eqb (length part) below) c.unwrap.result (g.B.Resource.verdict l.below part) (sym c.unwrap.ensures ∙ c.judge.ensures) in
    let state = c.run_on.ensures ∙ ap (run (layered_extension l.class l.budget w (g.B.Resource.extension l.below) (g.B.Resource.join l.below)) c.args.steps.now c.args.marks.now) c.fill.ensures in
    ap not
    (judged
    ∙ ap (g.B.Resource.verdict l.below) (c.row.ensures.value ∙ ap (λ x. row_at w x c.args.left) state)
    ∙ verdict_of_run law l.class l.budget c.args.steps.now c.args.marks.now c.args.row.now c.requires.marks c.requires.row c.args.left (omega arith))
