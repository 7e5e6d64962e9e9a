use Rattle.std.proofs.Common.{◌≡◌, ◌+◌, ◌*◌, ◌^◌, ◌≤◌, drop}
use Rattle.records.specs.Limits.{most_stops}
use Rattle.records.specs.Steps.{steps_from}
use Rattle.table.specs.Travel.{travel_of}
use Rattle.table.proofs.route.Route.travel.Given as goal

abbrev pub invariant-loop-to : goal.invariant-loop-to
invariant-loop-to l = record {
  near : l.from ≤ most_stops;
  small : l.travel ≤ l.to-index * 2 ^ 32;
  rest : l.travel + travel_of (steps_from l.tables.stops.now l.tables.legs.now l.from (drop l.to-index l.stops)) ≡ travel_of (steps_from l.tables.stops.now l.tables.legs.now 0 l.stops);
}
