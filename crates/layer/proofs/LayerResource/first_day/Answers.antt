use Rattle.std.proofs.Common.{◌≡◌, ◌*◌, ◌≤◌, true, false, ◌∷◌, ◌++◌, length, take, drop, is_some, Ok, refl, sym, ap, ◌∙◌, ap₂, add-mul, arith, length-append, length-drop, length-take}
use Rattle.std.proofs.lemmas.List.{take-append-drop, take_at}
use Rattle.std.proofs.lemmas.Bool.{not-true, not-false, cond-true, cond-false}
use Rattle.resource.specs.Answers.{day_list}
use Rattle.resource.specs.Scenarios.{Budget, first_day}
use Rattle.layered.proofs.FirstDays.{length-first_day}
use Rattle.layered.proofs.Piles.{no_day, first_day-chosen, chosen_found}
use Rattle.layered.proofs.Widths.{counted, counted_below}
use Rattle.resource.proofs.Runs.{asked}
use Rattle.layer.proofs.Answered.{day_granted, day_list_lem}
use Rattle.layer.proofs.LayerResource.first_day.Goals as goal

pub returns-then-not-choose_day : goal.returns-then-not-choose_day
returns-then-not-choose_day g c =
    let l = c.args.self.now in
    let r = g.B.Resource in
    let n = length c.args.steps.now in
    let ms = take n c.args.marks.now in
    let w = r.width l.below in
    let grant = asked _ _ n (length c.args.marks.now) (length c.args.work.now) _ tt refl c.in_ok-ask_route.ensures in
    let wide = counted_below l.budget c.row_width-wide.result w c.row_width-wide.ensures grant.narrow in
    let width = counted l.budget c.row_width-wide.result w c.row_width-wide.ensures grant.narrow in
    let judges = g.met.B.Resource.judges_every_scenario l.below wide in
    let all = not-false _ (sym c.choose_day.ensures.answer ∙ c.if-not-choose_day.true) in
    let none = no_day (r.start l.below) (r.extension l.below) (r.verdict l.below) (r.layers l.below) (r.accepts l.below) judges (record { class = l.class; most = l.budget }) c.args.steps.now ms (length-take n c.args.marks.now ∙ omega arith) all in
    record {
      answer = ap (λ d. Ok (is_some d)) (sym none) ∙ sym (day_granted _ n (length c.args.marks.now) (length c.args.work.now) _ (omega arith) (omega arith) (omega arith) (omega arith));
      list = ap (λ z. z ++ drop n c.args.marks.now) (c.choose_day.ensures.list ∙ cond-true _ _ _ all)
          ∙ take-append-drop n c.args.marks.now ∙ sym (ap (λ d. day_list (Ok false) d c.args.marks.now) none);
    }

pub returns : goal.returns
returns g c =
    let l = c.args.self.now in
    let r = g.B.Resource in
    let ss = c.args.steps.now in
    let n = length ss in
    let old = c.args.marks.now in
    let ms = take n old in
    let w = r.width l.below in
    let b : Budget = record { class = l.class; most = l.budget } in
    let grant = asked _ _ n (length c.args.marks.now) (length c.args.work.now) _ tt refl c.in_ok-ask_route.ensures in
    let wide = counted_below l.budget c.row_width-wide.result w c.row_width-wide.ensures grant.narrow in
    let width = counted l.budget c.row_width-wide.result w c.row_width-wide.ensures grant.narrow in
    let judges = g.met.B.Resource.judges_every_scenario l.below wide in
    let long : length ms ≡ n = length-take n old ∙ omega arith in
    let refused = not-true _ (sym c.choose_day.ensures.answer ∙ c.if-not-choose_day.false) in
    let new = c.choose_day.new.marks in
    let chose = c.choose_day.ensures.list ∙ cond-false _ _ _ refused in
    let sized : length new ≡ n = omega arith in
    let fd = first_day (r.accepts l.below) (b ∷ r.layers l.below) ss ms in
    let same = first_day-chosen (r.start l.below) (r.extension l.below) (r.verdict l.below) (r.layers l.below) (r.accepts l.below) judges b ss ms long refused in
    let found : is_some fd ≡ true =
    ap is_some same ∙ chosen_found (r.start l.below) (r.extension l.below) (r.verdict l.below) (r.layers l.below) (r.accepts l.below) judges b ss ms long refused in
    let below : first_day (r.accepts l.below) (r.layers l.below) ss (take n (new ++ drop n old)) ≡ fd =
    ap (first_day (r.accepts l.below) (r.layers l.below) ss) (take_at new (drop n old) n sized ∙ chose) ∙ sym same in
    let room : 4 * w ≤ length c.choose_day.new.work = omega (arith, add-mul l.budget 1 c.row_width-wide.result) in
    let bytes : 41 ≤ length (new ++ drop n old) = omega (arith, length-append new (drop n old), length-drop n old) in
    let answered : c.first_day.result ≡ Ok (is_some fd) =
    c.first_day.ensures.answer
    ∙ day_granted w n (length (new ++ drop n old)) (length c.choose_day.new.work) _ wide grant.few room bytes
    ∙ ap (λ d. Ok (is_some d)) below in
    record {
      answer = answered ∙ sym (day_granted _ n (length old) (length c.args.work.now) _ (omega arith) (omega arith) (omega arith) (omega arith));
      list =
          c.first_day.ensures.list
          ∙ ap₂ (λ a d. day_list a d (new ++ drop n old)) answered below
          ∙ day_list_lem fd (is_some fd) n new old sized (λ d e. length-first_day (r.accepts l.below) (b ∷ r.layers l.below) ss ms d e ∙ long) found
          ∙ sym (ap (λ a. day_list a fd old) answered);
    }
