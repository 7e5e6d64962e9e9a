use Rattle.std.proofs.Common.{◌<◌, ◌++◌, [], ◌∷◌, ◌+◌, length, get_or, take, sym, refl, ap, ◌∙◌, subst, arith}
use Rattle.std.proofs.lemmas.List.{take_all, take_more_set}
use Rattle.std.proofs.lemmas.List.Recursion.{and_at}
use Rattle.records.specs.Limits.{most_stops}
use Rattle.records.specs.Steps.{is_stop, are_stops}
use Rattle.table.specs.Laid.{IsRoute, as_long}
use Rattle.table.specs.Routes.{take_out}
use Rattle.table.proofs.Numbers.{length-take_out-take, other_goes_on, same_is_out}
use Rattle.table.proofs.Stored.{one_behind}
use Rattle.table.proofs.route.Route.remove.Goals as goal
use Rattle.table.proofs.route.Route.remove.Goals.{then-other-stop, else-other-stop}

pub bounds-stops-len : goal.bounds-stops-len
bounds-stops-len c = omega (arith, as_long _ _ c.loop-other.invariant.laid, ap length c.loop-other.invariant.kept, length-take_out-take c.args.stop c.loop-other.other-index c.stops-other-items.result.now, c.stops-other-items.ensures.short)

pub loop-other-preserved : goal.loop-other-preserved
loop-other-preserved c =
    let ks = c.stops-other-items.result.now in
    let i = c.loop-other.other-index in
    let l = c.loop-other in
    let within : l.len < most_stops = omega (arith, as_long _ _ l.invariant.laid, ap length l.invariant.kept, length-take_out-take c.args.stop i ks, c.stops-other-items.ensures.short) in
    elim c.if-other-stop.branch [
      | then-other-stop w ↦
          let stop = and_at are_stops is_stop refl (λ _ _. refl) ks i 0 c.loop-other-test.true c.stops-other-items.ensures.stops in
          record {
            kept = (λ j. take (w.len-is j) (w.stops-is j)) ∙ take_more_set l.stops l.len (get_or ks i 0) (omega (arith, l.invariant.laid.places)) ∙ ap (λ q. q ++ get_or ks i 0 ∷ []) l.invariant.kept ∙ sym (other_goes_on c.args.stop ks i c.loop-other-test.true w.if-other-stop.true);
            laid = subst (IsRoute c.if-other-stop.stops) (sym w.len-is) (subst (λ xs. IsRoute xs (l.len + 1)) (sym w.stops-is) (one_behind l.stops l.len l.invariant.laid (get_or ks i 0) stop within));
          }
      | else-other-stop w ↦ record {
        kept = (λ j. take (w.len-is j) (w.stops-is j)) ∙ l.invariant.kept ∙ sym (same_is_out c.args.stop ks i c.loop-other-test.true w.if-other-stop.false);
        laid = subst (IsRoute c.if-other-stop.stops) (sym w.len-is) (subst (λ xs. IsRoute xs l.len) (sym w.stops-is) l.invariant.laid);
      }
    ]

pub returns : goal.returns
returns c = c.loop-other.invariant.kept ∙ ap (take_out c.args.stop) (take_all _ _ c.loop-other-test.false ∙ c.stops-other-items.ensures.same)
