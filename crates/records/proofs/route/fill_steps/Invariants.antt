use Rattle.records.proofs.Walks.{Walking}
use Rattle.records.proofs.route.fill_steps.Given as goal

abbrev pub invariant-loop-at : goal.invariant-loop-at
invariant-loop-at l = Walking l.tables.stops.now l.tables.legs.now l.route l.initial.out l.out l.from l.at
