-- What is due after a line, as facts on the line. Assumes nothing.
use Rattle.std.proofs.Common.{◌≡◌, ◌<◌, true, length, Some, None, Option, refl, arith}
use Rattle.std.proofs.lemmas.Bool.{and_from, eq-eqb}
use Rattle.lines.specs.declared.line.Line.{Line}
use Rattle.lines.specs.declared.line.Line.TheVariants as line
use Rattle.lines.specs.Forms.{form_of, line_text}
use Rattle.dayfile.specs.declared.bounds.Subject.{Subject}
use Rattle.dayfile.specs.declared.bounds.Subject.TheVariants as about
use Rattle.dayfile.specs.contracts.bounds.SubjectPartialEq.TheImpl.{eq-value}
use Rattle.std.specs.Option.{option_eq}
use Rattle.dayfile.specs.declared.expectation.Expectation.{Expectation}
use Rattle.dayfile.specs.Expecting.{form_due, Follows, day, depot, capacity, drive, travel_budget, serve_budget, demand_budget, stops, stop, leg, end}

pub follows_form : {e : Expectation} {l : Line} {n : Expectation} → Follows e l n → Some (form_of l) ≡ form_due e
follows_form day = refl
follows_form depot = refl
follows_form capacity = refl
follows_form drive = refl
follows_form travel_budget = refl
follows_form serve_budget = refl
follows_form demand_budget = refl
follows_form stops = refl
follows_form stop = refl
follows_form leg = refl
follows_form end = refl

-- no line is empty
pub some_bytes : (l : Line) → 0 < length (line_text l)
some_bytes line.Day = omega arith
some_bytes (line.Depot o c) = omega arith
some_bytes (line.Capacity n) = omega arith
some_bytes (line.Drive n) = omega arith
some_bytes (line.TravelBudget n) = omega arith
some_bytes (line.ServeBudget n) = omega arith
some_bytes (line.DemandBudget n) = omega arith
some_bytes (line.Stops n) = omega arith
some_bytes (line.Stop n s) = omega arith
some_bytes (line.Leg i j l) = omega arith
some_bytes line.End = omega arith

-- a subject is equal to itself
pub same_subject : (o : Option Subject) → option_eq eq-value.it o o ≡ true
same_subject None = refl
same_subject (Some (about.Stop n)) = eq-eqb n n refl
same_subject (Some (about.Leg i j)) = and_from _ _ (eq-eqb i i refl) (eq-eqb j j refl)

pub ruleset following = (day, depot, capacity, drive, travel_budget, serve_budget, demand_budget, stops, stop, leg, end)

pub ruleset judging = (follows_form, same_subject)
