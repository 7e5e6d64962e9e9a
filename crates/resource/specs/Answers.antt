-- What the calls of a resource answer, and what their rows and lists then hold. Assumes nothing.
use Rattle.std.specs.Prelude.{ℕ, ◌*◌, Bool, cond, ◌&&◌, List, ◌++◌, length, drop, Some, None, Ok, Err, Option, Result, nat_le}
use Rattle.resource.specs.declared.refusal.Refusal.{Refusal}
use Rattle.resource.specs.declared.refusal.Refusal.TheVariants.{TooWide, FigureTooGreat, BudgetTooGreat, ClassNotOneBit, TooManySteps, OtherWidth, TooLittleRoom}
use Rattle.resource.specs.Rows.{widest}

-- the number of each refusal
abbrev pub number_of : Refusal → ℕ
number_of TooWide = 11
number_of FigureTooGreat = 12
number_of BudgetTooGreat = 13
number_of ClassNotOneBit = 14
number_of TooManySteps = 17
number_of OtherWidth = 18
number_of TooLittleRoom = 21

-- a row call: is the resource not too wide, and is each row of its width?
abbrev pub row_answer : {X : Type 0} → ℕ → Bool → X → Result X Refusal
row_answer width rows x = cond (nat_le width widest) (cond rows (Ok x) (Err OtherWidth)) (Err TooWide)

-- what a row then holds: the new words where the call was granted, else its old ones
abbrev pub written : {X : Type 0} → Result X Refusal → List ℕ → List ℕ → List ℕ
written (Ok x) new old = new
written (Err e) new old = old

-- a call on a route: not too wide, at most 41 steps, a work slice of four widths and a mark list of 41 bytes
abbrev pub route_answer : {X : Type 0} → ℕ → ℕ → ℕ → ℕ → X → Result X Refusal
route_answer width steps marks work x =
    cond (nat_le width widest) (cond (nat_le steps 41) (cond (nat_le (4 * width) work && nat_le 41 marks) (Ok x) (Err TooLittleRoom)) (Err TooManySteps)) (Err TooWide)

-- first day, and the verdict on a route
abbrev pub day_answer : ℕ → ℕ → ℕ → ℕ → Bool → Result Bool Refusal
day_answer = route_answer

-- the mark list after first day: the day's marks over its first bytes where one was found, else as it was
abbrev pub day_list : Result Bool Refusal → Option (List ℕ) → List ℕ → List ℕ
day_list (Ok found) None old = old
day_list (Ok found) (Some day) old = day ++ drop (length day) old
day_list (Err e) day old = old
