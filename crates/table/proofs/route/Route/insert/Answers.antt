use Rattle.std.proofs.Common.{◌≡◌, ◌+◌, ◌++◌, take, drop, set, ap, ◌∙◌, arith}
use Rattle.std.specs.List.{insert}
use Rattle.table.specs.Laid.{as_long}
use Rattle.table.proofs.Stored.{one_more, seen, shifted}
use Rattle.table.proofs.route.Route.insert.Goals as goal
use Rattle.table.proofs.route.Route.insert.Goals.{After-copy_within}

moved : (c : After-copy_within) → set c.copy_within.new.self c.args.place c.args.stop ≡ insert (take c.args.self.now.len c.args.self.now.stops) c.args.place c.args.stop ++ drop (c.args.self.now.len + 1) c.args.self.now.stops
moved c =
    let route = c.args.self.now in
    let long = as_long _ _ route.laid in
    ap (λ l. set l c.args.place c.args.stop) c.copy_within.ensures.after ∙ shifted c.args.stop c.args.place route.len route.stops (omega (arith, c.requires.within)) (omega (arith, c.requires.room, route.laid.places))

pub invariant_of-self : goal.invariant_of-self
invariant_of-self c = record { laid = one_more _ _ c.args.self.now.laid c.args.stop c.args.place c.requires.stop c.requires.room c.requires.within _ (moved (goal.at.invariant_of-self c).After-copy_within) }

pub returns : goal.returns
returns c = seen _ _ c.args.self.now.laid c.args.stop c.args.place c.requires.stop c.requires.room c.requires.within _ (moved (goal.at.returns c).After-copy_within)
