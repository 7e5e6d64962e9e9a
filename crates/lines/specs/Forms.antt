-- The forms that a line of a day file can have, each as a template, and the text of a line. Assumes nothing.
use Rattle.std.specs.Prelude.{ℕ, suc, ◌<◌, Bool, true, false, List, [], ◌∷◌, ◌++◌, codes, decimal, ◌==◌, slice_index}
use Rattle.std.specs.List.{AllByRecursion}
use Rattle.lines.specs.declared.line.Form.{Form}
use Rattle.lines.specs.declared.line.Form.TheVariants.{Day, Depot, Capacity, Drive, TravelBudget, ServeBudget, DemandBudget, Stops, Stop, Leg, End}
use Rattle.lines.specs.declared.line.Line.{Line}
use Rattle.lines.specs.declared.line.Line.TheVariants as line

-- the byte that ends a line
abbrev pub line_end : List ℕ
line_end = 10 ∷ []

-- a form's template: its bytes, with # where a number stands
abbrev pub template : Form → List ℕ
template Day = codes "(day" ++ line_end
template Depot = codes "(depot # #)" ++ line_end
template Capacity = codes "(capacity #)" ++ line_end
template Drive = codes "(drive #)" ++ line_end
template TravelBudget = codes "(budget travel #)" ++ line_end
template ServeBudget = codes "(budget serve #)" ++ line_end
template DemandBudget = codes "(budget demand #)" ++ line_end
template Stops = codes "(stops #)" ++ line_end
template Stop = codes "(stop # (window # #) (serve # #) (deliver # #) (pickup # #) (rest #))" ++ line_end
template Leg = codes "(leg # # # #)" ++ line_end
template End = codes ")" ++ line_end

-- one place of a template, then the rest: number k where a number stands there (b), else the byte c
abbrev pub place : Bool → ℕ → ℕ → List ℕ → (ℕ → List ℕ) → List ℕ
place true c k ns rest = decimal (slice_index ns k) ++ rest (suc k)
place false c k ns rest = c ∷ rest k

-- a template with its numbers in their places: the first # that is left is number k of the list
abbrev pub filled : List ℕ → ℕ → List ℕ → List ℕ
filled [] k ns = []
filled (c ∷ p) k ns = place (c == 35) c k ns (λ j. filled p j ns)

abbrev pub form_of : Line → Form
form_of line.Day = Day
form_of (line.Depot opens closes) = Depot
form_of (line.Capacity crates) = Capacity
form_of (line.Drive seconds) = Drive
form_of (line.TravelBudget most) = TravelBudget
form_of (line.ServeBudget most) = ServeBudget
form_of (line.DemandBudget most) = DemandBudget
form_of (line.Stops count) = Stops
form_of (line.Stop number stop) = Stop
form_of (line.Leg i j leg) = Leg
form_of line.End = End

-- the numbers of a line, in the order in which they are written
abbrev pub figures : Line → List ℕ
figures line.Day = []
figures (line.Depot opens closes) = opens ∷ closes ∷ []
figures (line.Capacity crates) = crates ∷ []
figures (line.Drive seconds) = seconds ∷ []
figures (line.TravelBudget most) = most ∷ []
figures (line.ServeBudget most) = most ∷ []
figures (line.DemandBudget most) = most ∷ []
figures (line.Stops count) = count ∷ []
figures (line.Stop number s) =
    number ∷ s.opens ∷ s.closes ∷ s.serve ∷ s.serve_deviation ∷ s.deliver ∷ s.deliver_deviation ∷ s.pickup ∷ s.pickup_deviation ∷ s.rest ∷ []
figures (line.Leg i j l) = i ∷ j ∷ l.travel ∷ l.travel_deviation ∷ []
figures line.End = []

abbrev pub line_text : Line → List ℕ
line_text l = filled (template (form_of l)) 0 (figures l)

-- every number of the line has at most six digits
abbrev pub InForm : Line → Type 0
InForm l = AllByRecursion (λ n. n < 1000000) (figures l)
