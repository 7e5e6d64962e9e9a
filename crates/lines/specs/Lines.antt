-- What a text begins with: a line in form, and what stands after it. Assumes nothing.
use Rattle.std.specs.Prelude.{◌≡◌, ℕ, List, [], ◌∷◌, ◌++◌, Some, None, Option, slice_index}
use Rattle.std.specs.Option.{option_map, option_or}
use Rattle.lines.specs.declared.line.Form.{Form}
use Rattle.lines.specs.declared.line.Form.TheVariants.{Day, Depot, Capacity, Drive, TravelBudget, ServeBudget, DemandBudget, Stops, Stop, Leg, End}
use Rattle.lines.specs.declared.line.Line.{Line}
use Rattle.lines.specs.declared.line.Line.TheVariants as line
use Rattle.lines.specs.Forms.{template, line_text, InForm}
use Rattle.lines.specs.Scan.{scanned}

abbrev pub BeginsWith : List ℕ → Line → List ℕ → Type 0
BeginsWith text l rest = InForm l × (text ≡ line_text l ++ rest)

-- A line is read exactly where the text begins with it.
pub record Parsed (text : List ℕ) (r : Option (Line × List ℕ)) : Type 0 where
  pub sound : (l : Line) (rest : List ℕ) → r ≡ Some (l, rest) → BeginsWith text l rest
  pub complete : (l : Line) (rest : List ℕ) → BeginsWith text l rest → r ≡ Some (l, rest)

-- the line of a form that has the numbers given
abbrev pub line_of : Form → List ℕ → Line
line_of Day ns = line.Day
line_of Depot ns = line.Depot (slice_index ns 0) (slice_index ns 1)
line_of Capacity ns = line.Capacity (slice_index ns 0)
line_of Drive ns = line.Drive (slice_index ns 0)
line_of TravelBudget ns = line.TravelBudget (slice_index ns 0)
line_of ServeBudget ns = line.ServeBudget (slice_index ns 0)
line_of DemandBudget ns = line.DemandBudget (slice_index ns 0)
line_of Stops ns = line.Stops (slice_index ns 0)
line_of Stop ns =
    line.Stop (slice_index ns 0)
    (record {
      opens = slice_index ns 1;
      closes = slice_index ns 2;
      serve = slice_index ns 3;
      serve_deviation = slice_index ns 4;
      deliver = slice_index ns 5;
      deliver_deviation = slice_index ns 6;
      pickup = slice_index ns 7;
      pickup_deviation = slice_index ns 8;
      rest = slice_index ns 9;
    })
line_of Leg ns = line.Leg (slice_index ns 0) (slice_index ns 1) (record { travel = slice_index ns 2; travel_deviation = slice_index ns 3 })
line_of End ns = line.End

abbrev pub forms : List Form
forms = Day ∷ Depot ∷ Capacity ∷ Drive ∷ TravelBudget ∷ ServeBudget ∷ DemandBudget ∷ Stops ∷ Stop ∷ Leg ∷ End ∷ []

-- the line of one form that a text begins with
abbrev pub as_form : Form → List ℕ → Option (Line × List ℕ)
as_form f t = option_map (λ p. (line_of f p.0, p.1)) (scanned (template f) [] t)

-- the line that a text begins with, by the first of some forms whose template it fits
abbrev pub first_line : List Form → List ℕ → Option (Line × List ℕ)
first_line [] t = None
first_line (f ∷ fs) t = option_or (as_form f t) (first_line fs t)
