use Rattle.std.proofs.Common.{refl, ap, ◌∙◌, arith, length}
use Rattle.layered.proofs.Numbers.{row_part, length-row_at}
use Rattle.layer.proofs.Changing.{one_more}
use Rattle.layer.proofs.rows.change_rows.Goals as goal

pub loop-g-preserved : goal.loop-g-preserved
loop-g-preserved g c =
    let w = c.args.wide in
    let here = row_part w c.loop-g.g _ _ c.loop-g.rows refl refl in
    let sized = ap length here ∙ length-row_at w c.args.count c.loop-g.rows c.loop-g.invariant.long c.loop-g.g c.loop-g-test.true in
    one_more (goal.F-post g c.args.change) w c.args.count c.args.rows.now c.loop-g.rows c.loop-g.g _ _ c.loop-g.invariant c.loop-g-test.true refl (omega arith)
    c.change.new.arg3 _ _ c.change.ensures here refl (c.change.auto.arg3 ∙ sized)
