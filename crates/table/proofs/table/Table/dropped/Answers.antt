use Rattle.std.proofs.Common.{◌≡◌, ◌<◌, length, set, sym, ◌∙◌, subst, arith}
use Rattle.std.proofs.lemmas.List.{length-map}
use Rattle.table.specs.Routes.{dropped, take_out}
use Rattle.table.specs.Standing.{IsPlan}
use Rattle.table.specs.Stored.{stops_of, routes_of}
use Rattle.table.specs.Tables.{routes_in}
use Rattle.table.proofs.Changes.{dropped_nowhere}
use Rattle.table.proofs.Plans.{stands_at, dropped_at, plan_dropped}
use Rattle.table.proofs.Stored.{stored-set}
use Rattle.table.proofs.table.Table.dropped.Goals as goal
use Rattle.table.proofs.table.Table.dropped.Goals.{After-remove}

pub returns-in_default : goal.returns-in_default
returns-in_default c = sym (dropped_nowhere c.args.stop (routes_in c.args.self) (sym c.in_default.ensures))

-- the one route is written, and that is the plan without the stop
written : (c : After-remove) → routes_of (set c.args.self.routes c.in-Some.at c.remove.new.self) ≡ dropped c.args.stop (routes_in c.args.self)
written c =
    let t = c.args.self in
    let is = sym c.in-Some.ensures in
    let lt : c.in-Some.at < length t.routes = omega (arith, (stands_at _ t.plan c.args.stop c.in-Some.at is).0, length-map t.routes stops_of) in
    stored-set t.routes _ (take_out c.args.stop) c.remove.new.self _ lt c.remove.ensures ∙ dropped_at _ t.plan c.args.stop c.in-Some.at is _

pub invariant_of-result : goal.invariant_of-result
invariant_of-result c = record { plan = subst IsPlan (sym (written (goal.at.invariant_of-result c).After-remove)) (plan_dropped (routes_in c.args.self) c.args.self.plan c.args.stop) }

pub returns : goal.returns
returns c = written (goal.at.returns c).After-remove
