use Rattle.std.proofs.Common.{◌≡◌, ℕ, ◌+◌, ◌<◌, List, length, get_or, drop, ◌∙◌, arith}
use Rattle.std.proofs.lemmas.List.{at_drop_more}
use Rattle.std.proofs.lemmas.Grind.{common_steps}
use Rattle.records.specs.declared.Stop.{Stop}
use Rattle.records.specs.declared.Leg.{Leg}
use Rattle.records.specs.Steps.{leg_of, steps_from}
use Rattle.records.proofs.Walks.{stop_at_lem}
use Rattle.table.specs.Travel.{travel_of}
use Rattle.table.proofs.route.Route.travel.Goals as goal

-- one leg, and the others
travel_on : (ss : List Stop) (ls : List Leg) (from : ℕ) (ks : List ℕ) (i : ℕ) → i < length ks → travel_of (steps_from ss ls from (drop i ks)) ≡ (leg_of ls from (get_or ks i 0)).travel + travel_of (steps_from ss ls (get_or ks i 0) (drop (i + 1) ks))
travel_on ss ls from ks i lt = at_drop_more (λ q. travel_of (steps_from ss ls from q)) ks i 0 lt ∙ grind (arith, common_steps)

pub leg_travel-travel-requires-clause-far : goal.leg_travel-travel-requires-clause-far
leg_travel-travel-requires-clause-far c = stop_at_lem _ _ c.loop-to-test.true c.stops-stops.ensures.stops

pub loop-to-preserved : goal.loop-to-preserved
loop-to-preserved c =
    let ks = c.stops-stops.result.now in
    let i = c.loop-to.to-index in
    record {
      near = stop_at_lem ks i c.loop-to-test.true c.stops-stops.ensures.stops;
      small = omega (arith, c.leg_travel-travel.ensures.small);
      rest = omega (arith, c.leg_travel-travel.ensures.travel, travel_on c.args.tables.stops.now c.args.tables.legs.now c.loop-to.from ks i c.loop-to-test.true);
    }
