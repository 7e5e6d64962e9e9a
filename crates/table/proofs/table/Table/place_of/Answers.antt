use Rattle.std.proofs.Common.{◌∙◌, rules, tests}
use Rattle.std.proofs.lemmas.Iterator.{YieldsList-from_slice}
use Rattle.std.proofs.lemmas.Iterator.Search.{position_from_yields_List}
use Rattle.table.specs.Routes.{holds}
use Rattle.table.specs.Stored.{stops_of}
use Rattle.table.proofs.Stored.{position_seen}
use Rattle.table.proofs.table.Table.place_of.Goals as goal

pub returns : goal.returns
returns c =
    let x = c.args.stop in
    let rs = c.args.self.now.routes in
    position_from_yields_List (λ r. holds x (stops_of r)) _ _ c.position.result c.position.ensures.ran (YieldsList-from_slice rs cc) (λ y b q k. search (rules, tests))
    ∙ position_seen (holds x) rs
