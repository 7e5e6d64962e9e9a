use Rattle.std.proofs.Common.{◌≡◌, length, take, sym, ap, ◌∙◌, ⊎_elim, arith, eq-eqb}
use Rattle.std.proofs.lemmas.List.{length-take-le}
use Rattle.resource.proofs.Runs.{run_nothing, run_taken, asked, judged}
use Rattle.resource.proofs.interface.Resource.judge_route.Goals as goal

pub returns : goal.returns
returns g c =
    let r = g.Self.Resource in
    let self = c.args.self.now in
    let steps = c.args.steps.now in
    let marks = c.args.marks.now in
    let work = length c.args.work.now in
    let left = c.loop-step.step-iterator in
    let w = c.row_width-width in
    let e = c.in_ok-ask_route.ensures in
    let grant = asked w.result (r.width self) (length steps) (length marks) work _ tt w.ensures e in
    let none : length left.a.rest.now ≡ 0 = ⊎_elim (λ h. h.1.0) (λ h. omega (arith, h.1.0, c.loop-step.invariant.marked)) c.in-None.ensures.steps in
    let made = sym (run_nothing (r.extension self) left.a.rest.now left.b.rest.now c.loop-step.row none) ∙ c.loop-step.invariant.sofar ∙ sym (run_taken (r.extension self) steps marks (r.start self)) in
    judged w.result (r.width self) (length steps) (length marks) work _ _ _ _ _ w.ensures e c.judge.ensures (eq-eqb _ _ c.loop-step.invariant.wide)
    (ap (r.verdict self) made ∙ g.met.Self.Resource.judges_every_scenario self grant.narrow steps (take (length steps) marks) (length-take-le (length steps) marks grant.marked))
