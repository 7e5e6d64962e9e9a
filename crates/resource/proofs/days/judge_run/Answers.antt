use Rattle.std.proofs.Common.{◌≡◌, eqb, length, Ok, sym, ap, ◌∙◌, ⊎_elim, arith, eq-eqb}
use Rattle.resource.proofs.Runs.{run_nothing, row_granted}
use Rattle.resource.proofs.days.judge_run.Goals as goal

pub returns : goal.returns
returns g c =
    let r = g.R.Unlayered in
    let resource = c.args.resource.now in
    let left = c.loop-step.step-iterator in
    let none : length left.a.rest.now ≡ 0 = ⊎_elim (λ h. h.1.0) (λ h. omega (arith, h.1.0, c.loop-step.invariant.marked)) c.in-None.ensures.steps in
    let made = sym (run_nothing (r.extension resource) left.a.rest.now left.b.rest.now c.loop-step.row none) ∙ c.loop-step.invariant.sofar in
    c.weigh.ensures
    ∙ row_granted (r.width resource) (eqb (length c.loop-step.row) (r.width resource)) (r.verdict resource c.loop-step.row) c.requires.narrow (eq-eqb _ _ c.loop-step.invariant.wide)
    ∙ ap (λ row. Ok (r.verdict resource row)) made
