-- What the reader expects next: it follows from what it expected and what it got. Assumes nothing.
use Rattle.std.specs.Prelude.{◌≡◌, ℕ, ◌+◌, true, false, cond, Some, None, Ok, Err, Option, Result, ◌==◌, ◌≢◌, nat_lt}
use Rattle.records.specs.declared.Stop.{Stop}
use Rattle.records.specs.declared.Leg.{Leg}
use Rattle.lines.specs.declared.line.Form as forms
use Rattle.lines.specs.declared.line.Form.TheVariants as form
use Rattle.lines.specs.declared.line.Line.{Line}
use Rattle.lines.specs.declared.line.Line.TheVariants as line
use Rattle.lines.specs.Forms.{form_of}
use Rattle.dayfile.specs.Bounds.{within, ordered, subject}
use Rattle.dayfile.specs.declared.bounds.Subject.{Subject}
use Rattle.dayfile.specs.declared.bounds.Subject.TheVariants as about
use Rattle.dayfile.specs.declared.expectation.Question.{Question}
use Rattle.dayfile.specs.declared.expectation.Question.TheVariants.{Form, Bounds, Turn}
use Rattle.dayfile.specs.declared.expectation.Expectation.{Expectation}
use Rattle.dayfile.specs.declared.expectation.Expectation.TheVariants as due

-- the form of line that is due; none where nothing more is
abbrev pub form_due : Expectation → Option forms.Form
form_due due.Day = Some form.Day
form_due due.Depot = Some form.Depot
form_due due.Capacity = Some form.Capacity
form_due due.Drive = Some form.Drive
form_due due.TravelBudget = Some form.TravelBudget
form_due due.ServeBudget = Some form.ServeBudget
form_due due.DemandBudget = Some form.DemandBudget
form_due due.Stops = Some form.Stops
form_due (due.Stop k n) = Some form.Stop
form_due (due.Leg i j n) = Some form.Leg
form_due due.End = Some form.End
form_due due.Nothing = None

-- the stop or the leg that is due, told as a line tells it
abbrev pub subject_due : Expectation → Option Subject
subject_due due.Day = None
subject_due due.Depot = None
subject_due due.Capacity = None
subject_due due.Drive = None
subject_due due.TravelBudget = None
subject_due due.ServeBudget = None
subject_due due.DemandBudget = None
subject_due due.Stops = None
subject_due (due.Stop k n) = Some (about.Stop k)
subject_due (due.Leg i j n) = Some (about.Leg i j)
subject_due due.End = None
subject_due due.Nothing = None

-- after stop k of n: the next stop, or the first leg
abbrev pub after_stop : ℕ → ℕ → Expectation
after_stop k n = cond (nat_lt k n) (due.Stop (k + 1) n) (due.Leg 0 1 n)

-- after the last leg from i: the first leg from the next place, or the end
abbrev pub after_row : ℕ → ℕ → Expectation
after_row i n = cond (nat_lt i n) (due.Leg (i + 1) 0 n) due.End

-- after the leg from i to j: the leg from i to the next place that is not i
abbrev pub after_leg : ℕ → ℕ → ℕ → Expectation
after_leg i j n = cond (nat_lt j n) (cond (j + 1 == i) (cond (nat_lt (j + 1) n) (due.Leg i (j + 2) n) (after_row i n)) (due.Leg i (j + 1) n)) (after_row i n)

-- A line of the form that was due, and what is due after it.
pub data Follows : Expectation → Line → Expectation → Type 0 where
  day : Follows due.Day line.Day due.Depot
  depot : {o c : ℕ} → Follows due.Depot (line.Depot o c) due.Capacity
  capacity : {q : ℕ} → Follows due.Capacity (line.Capacity q) due.Drive
  drive : {q : ℕ} → Follows due.Drive (line.Drive q) due.TravelBudget
  travel_budget : {q : ℕ} → Follows due.TravelBudget (line.TravelBudget q) due.ServeBudget
  serve_budget : {q : ℕ} → Follows due.ServeBudget (line.ServeBudget q) due.DemandBudget
  demand_budget : {q : ℕ} → Follows due.DemandBudget (line.DemandBudget q) due.Stops
  stops : {n : ℕ} → Follows due.Stops (line.Stops n) (due.Stop 1 n)
  stop : {k n number : ℕ} {s : Stop} → Follows (due.Stop k n) (line.Stop number s) (after_stop k n)
  leg : {i j n u v : ℕ} {l : Leg} → Follows (due.Leg i j n) (line.Leg u v l) (after_leg i j n)
  end : Follows due.End line.End due.Nothing

-- A line stands where it does: it is of the form due, and its numbers are within their bounds and in turn.
pub record Passes (e : Expectation) (l : Line) (next : Expectation) : Type 0 where
  pub follows : Follows e l next
  pub inside : within l ≡ true
  pub turn : subject l ≡ subject_due e
  pub window : ordered l ≡ true

-- the first question that a line answers no, or that it stands
abbrev pub Judged : Expectation → Line → Result Expectation Question → Type 0
Judged e l (Ok next) = Passes e l next
Judged e l (Err Form) = Some (form_of l) ≡ form_due e → ⊥
Judged e l (Err Bounds) = (Some (form_of l) ≡ form_due e) × (within l ≡ false)
Judged e l (Err Turn) = (Some (form_of l) ≡ form_due e) × (within l ≡ true) × (subject l ≡ subject_due e → ordered l ≢ true)
