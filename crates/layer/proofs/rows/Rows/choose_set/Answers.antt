use Rattle.std.proofs.Common.{◌∙◌, ap₂, arith, length-drop}
use Rattle.std.proofs.lemmas.List.{take_rest}
use Rattle.layered.specs.Days.{accepted}
use Rattle.layered.proofs.Choosing.{choosing_more, choosing_all}
use Rattle.layer.proofs.rows.Rows.choose_set.Goals as goal

pub choose_step-left-requires : goal.choose_step-left-requires
choose_step-left-requires g c =
    let l = c.args.self.now.layer.now in
    let i = c.loop-i.i in
    record {
      marks = simp (take_rest, length-drop) (omega arith);
      some = simp (take_rest, length-drop) (omega arith);
      left = c.loop-i.invariant.0;
      row = omega arith;
      work = omega arith;
      refused =
          ap₂ (λ ts ns. accepted (g.B.Resource.extension l.below) (g.B.Resource.verdict l.below) l.class ts ns c.loop-i.row c.loop-i.left) (take_rest c.args.steps.now i) (take_rest c.loop-i.marks i)
          ∙ c.loop-i.invariant.1.refused;
    }

pub loop-i-preserved : goal.loop-i-preserved
loop-i-preserved g c =
    let l = c.args.self.now.layer.now in
    let e = g.B.Resource.extension l.below in
    let v = g.B.Resource.verdict l.below in
    let chose = c.choose_step-left.ensures in (
      omega arith,
      choosing_more e v l.class c.args.steps.now _ c.loop-i.marks c.loop-i.row c.loop-i.i c.loop-i.left c.choose_step-left.new.marks c.choose_step-left.new.row c.choose_step-left.result
          (omega arith) c.loop-i.invariant.1 chose,
    )

pub returns : goal.returns
returns g c =
    let l = c.args.self.now.layer.now in
    choosing_all (g.B.Resource.extension l.below) (g.B.Resource.verdict l.below) l.class c.args.steps.now _ c.loop-i.marks c.loop-i.row c.loop-i.i c.loop-i.left c.loop-i-test.false c.loop-i.invariant.1
