use Rattle.std.proofs.Common.{rules, refl}
use Rattle.layered.specs.Layered.{row_at}
use Rattle.layer.proofs.Changing.{all_changed}
use Rattle.layer.proofs.rows.Rows.extend_each_onto.Goals as goal

pub returns : goal.returns
returns g c =
    let b = c.args.self.now.layer.now.below in
    let w = c.args.self.now.wide in
    let e = c.change_rows.ensures in
    all_changed _ w _ _ refl (λ k y. g.B.Resource.join b y (g.B.Resource.extension b c.args.step.now c.args.marks (row_at w c.args.from.now k))) c.args.onto.now c.change_rows.new.rows (λ k found left h long m. search rules) c.requires.onto e.width e.done
