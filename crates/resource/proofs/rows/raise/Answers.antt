use Rattle.std.proofs.Common.{◌<◌, ◌≤◌, length, sym, ◌∙◌, arith}
use Rattle.resource.proofs.Loops.{greater-more, greater_all}
use Rattle.resource.proofs.rows.raise.Goals as goal

pub loop-i-preserved : goal.loop-i-preserved
loop-i-preserved c =
    let within : c.loop-i.i < length c.loop-i.onto = omega arith in
    greater-more c.loop-i.onto c.args.from.now c.loop-i.i c.max.result c.max.ensures within c.loop-i-test.true ∙ c.loop-i.invariant

pub returns : goal.returns
returns c =
    let past : length c.loop-i.onto ≤ c.loop-i.i = omega arith in
    sym (greater_all c.loop-i.onto c.args.from.now c.loop-i.i past) ∙ c.loop-i.invariant
