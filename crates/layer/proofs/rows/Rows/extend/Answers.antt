use Rattle.std.proofs.Common.{ℕ, suc, List, ◌∙◌, ap, bit_or}
use Rattle.layered.specs.Layered.{row_at, rows, join_lower}
use Rattle.layered.proofs.Laws.{extended}
use Rattle.layered.proofs.Widths.{laws_below}
use Rattle.layer.proofs.rows.Rows.extend.Goals as goal

pub returns : goal.returns
returns g c =
    let l = c.args.self.now.layer.now in
    let law = laws_below c.args.self.now.wide l.budget (g.met.B.Resource.lawful l.below) c.args.self.now.below c.args.self.now.narrow in
    let added = λ (m : ℕ) (y : List ℕ). rows (suc l.budget) (join_lower (g.B.Resource.join l.below) (row_at c.args.self.now.wide y) (λ k. g.B.Resource.extension l.below c.args.step.now m (row_at c.args.self.now.wide c.args.from.now k))) in
    c.add_marked.ensures
    ∙ ap (added (bit_or c.args.marks l.class)) c.extend_each.ensures
    ∙ extended law l.class l.budget c.args.step.now c.args.marks c.args.from.now c.requires.from
