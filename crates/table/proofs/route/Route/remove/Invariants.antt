use Rattle.std.proofs.Common.{◌≡◌, take}
use Rattle.table.specs.Laid.{IsRoute}
use Rattle.table.specs.Routes.{take_out}
use Rattle.table.proofs.route.Route.remove.Given as goal

abbrev pub invariant-loop-other : goal.invariant-loop-other
invariant-loop-other l = record {
  kept : take l.len l.stops ≡ take_out l.stop (take l.other-index l.other-items);
  laid : IsRoute l.stops l.len;
}
