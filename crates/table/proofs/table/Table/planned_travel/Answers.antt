use Rattle.std.proofs.Common.{◌≡◌, ◌*◌, ◌^◌, ◌+◌, fold, arith, rules, tests}
use Rattle.std.proofs.lemmas.Iterator.{YieldsList-from_slice}
use Rattle.std.proofs.lemmas.Iterator.Adapters.{at_most_from_yields_List, fits_from_length}
use Rattle.records.specs.Limits.{stop_records}
use Rattle.table.specs.Routes.{route_count}
use Rattle.table.proofs.table.Table.planned_travel.Goals as goal

pub sum-requires-clause-fits : goal.sum-requires-clause-fits
sum-requires-clause-fits c =
    let t = c.args.self.now in
    fits_from_length _ _ route_count _ (at_most_from_yields_List (YieldsList-from_slice t.routes cc) (omega (arith, t.plan.eight))) c.map.ensures.closure (omega arith) (λ x r q k. search (rules, tests))

pub returns-clause-small : goal.returns-clause-small
returns-clause-small c =
    let t = c.args.self.now in
    let run = c.sum.ensures.runs tt in
    let small = fits_from_length _ _ route_count (route_count * (stop_records * 2 ^ 32)) (at_most_from_yields_List (YieldsList-from_slice t.routes cc) (omega (arith, t.plan.eight))) c.map.ensures.closure (omega arith) (λ x r q k. search (rules, tests)) run.0 run.0.seen run.1 in
    let sum_is : c.sum.result ≡ fold (λ a x. a + x) 0 run.0.items = run.3 in
    omega (arith, small, sum_is)
