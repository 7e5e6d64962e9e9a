use Rattle.std.proofs.Common.{◌≡◌, ◌<◌, ◌-◌, length, set, Some, sym, ap, ◌∙◌, subst, arith}
use Rattle.std.proofs.lemmas.List.{length-map}
use Rattle.std.proofs.lemmas.Bool.{cond-true}
use Rattle.records.specs.Limits.{most_stops}
use Rattle.table.specs.Routes.{placed, put_in}
use Rattle.table.specs.Standing.{IsPlan}
use Rattle.table.specs.Stored.{stops_of, routes_of}
use Rattle.table.specs.Tables.{routes_in}
use Rattle.table.proofs.Plans.{inside, room, placed_at, plan_placed}
use Rattle.table.proofs.Stored.{stored, stored-set}
use Rattle.table.proofs.table.Table.placed.Goals as goal
use Rattle.table.proofs.table.Table.placed.Goals.{After-insert}

pub insert-requires-clause-room : goal.insert-requires-clause-room
insert-requires-clause-room c =
    let t = c.args.self in
    let fits = sym c.if-not-fits_in.ensures in
    let lt : c.args.spot.route - 1 < length t.routes = omega (arith, inside _ t.plan c.args.stop c.args.spot fits, length-map t.routes stops_of) in
    subst (λ r. length r < most_stops) (sym (stored t.routes _ _ lt)) (room _ t.plan c.args.stop c.args.spot fits _)

-- the one route is written, and that is the plan with the stop put in
written : (c : After-insert) → routes_of (set c.args.self.routes (c.args.spot.route - 1) c.insert.new.self) ≡ placed c.args.stop c.args.spot (routes_in c.args.self)
written c =
    let t = c.args.self in
    let fits = sym c.if-not-fits_in.ensures in
    let lt : c.args.spot.route - 1 < length t.routes = omega (arith, inside _ t.plan c.args.stop c.args.spot fits, length-map t.routes stops_of) in
    stored-set t.routes _ (put_in c.args.stop c.args.spot.place) c.insert.new.self _ lt c.insert.ensures
    ∙ placed_at _ t.plan c.args.stop c.args.spot fits _

pub invariant_of-result : goal.invariant_of-result
invariant_of-result c =
    let t = c.args.self in
    record { plan = subst IsPlan (sym (written c)) (plan_placed (routes_in t) t.plan c.args.stop c.args.spot (sym c.if-not-fits_in.ensures)) }

pub returns : goal.returns
returns c = ap Some (written (goal.at.returns c).After-insert) ∙ sym (cond-true _ _ _ (sym c.if-not-fits_in.ensures))
