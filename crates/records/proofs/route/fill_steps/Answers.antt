use Rattle.std.proofs.Common.{◌≡◌, ◌+◌, ◌*◌, get_or, refl, arith}
use Rattle.records.specs.Records.{no_leg}
use Rattle.records.proofs.Walks.{inside_at, at_depot, walk_on, walk_home}
use Rattle.records.proofs.route.fill_steps.Goals as goal

pub bounds-tables-from : goal.bounds-tables-from
bounds-tables-from c = omega (arith, inside_at c.args.route.now c.loop-at.at c.loop-at-test.true c.requires.inside)

pub bounds-tables-k : goal.bounds-tables-k
bounds-tables-k c = omega (arith, inside_at c.args.route.now c.loop-at.at c.loop-at-test.true c.requires.inside)

pub loop-at-init : goal.loop-at-init
loop-at-init c = at_depot _ _ _ _

pub loop-at-preserved : goal.loop-at-preserved
loop-at-preserved c =
    let small = inside_at c.args.route.now c.loop-at.at c.loop-at-test.true c.requires.inside in
    walk_on _ _ _ _ _ _ _ c.loop-at.invariant (omega arith) _ _ c.loop-at-test.true refl small refl

pub returns : goal.returns
returns c =
    let home : 41 * c.loop-at.from ≡ 41 * c.loop-at.from + 0 = omega arith in
    walk_home _ _ _ _ _ _ _ c.loop-at.invariant (omega arith) _ (omega arith)
    (λ i. record { leg = get_or c.args.tables.legs.now (home i) no_leg; stop = c.window_only-stop.ensures i })
