use Rattle.std.proofs.Common.{rules}
use Rattle.layer.proofs.Changing.{all_changed}
use Rattle.layer.proofs.rows.Rows.fill.Goals as goal

pub returns : goal.returns
returns g c =
    let b = c.args.self.now.layer.now.below in
    let w = c.args.self.now.wide in
    let e = c.change_rows.ensures in
    all_changed _ w _ _ c.count.ensures (λ _ _. c.args.row.now) c.args.into.now c.change_rows.new.rows (λ k found left h long m. search rules) c.requires.into e.width e.done
