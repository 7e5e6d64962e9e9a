use Rattle.std.proofs.Common.{refl}
use Rattle.pile.proofs.worked_figures_hold.Goals as goal

pub returns : goal.returns
returns c = record {
  hours_under_a_travel_layer = refl;
  the_day_survives = refl;
  travel_two_refused = refl;
  travel_two_until_340 = refl;
  travel_two_until_339 = refl;
  demand_two_refused = refl;
  drive_280 = refl;
  drive_279 = refl;
  long_way_home = refl;
}
