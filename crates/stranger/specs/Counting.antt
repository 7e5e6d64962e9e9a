-- The number of stops and of late legs: what a step with its marks makes of them. Assumes nothing.
use Rattle.std.specs.Prelude.{ℕ, ◌+◌, Bool, cond, ◌&&◌, List, [], ◌∷◌, length, Ok, Err, Result, ◌==◌, bit_and, nat_le, slice_index}
use Rattle.records.specs.declared.step.Step.{Step}
use Rattle.resource.specs.Rows.{Extension}
use Rattle.resource.specs.Scenarios.{Accepts}
use Rattle.resource.specs.declared.refusal.Refusal.{Refusal}
use Rattle.resource.specs.declared.refusal.Refusal.TheVariants.{FigureTooGreat}
use Rattle.resource.specs.Words.{recursion}

-- the greatest limit of either number
abbrev pub greatest_limit : ℕ
greatest_limit = 1000

-- one of the two limits of a tally that is asked for: refused where either is too great
abbrev pub limit_answer : ℕ → ℕ → ℕ → Result ℕ Refusal
limit_answer most_stops most_late limit = cond (nat_le most_stops greatest_limit && nat_le most_late greatest_limit) (Ok limit) (Err FigureTooGreat)

-- the two words of a row
abbrev pub stops_of : List ℕ → ℕ
stops_of row = slice_index row 0

abbrev pub late_of : List ℕ → ℕ
late_of row = slice_index row 1

-- a leg is late where it has a travel mark, 1, or one of the free class 8
abbrev pub late_legs : ℕ → ℕ
late_legs m = cond (bit_and m 9 == 0) 0 1

-- neither number is above its limit after a step with marks
abbrev pub within_limits : ℕ → ℕ → ℕ → ℕ → ℕ → Bool
within_limits most_stops most_late m stops late = nat_le (stops + 1) most_stops && nat_le (late + late_legs m) most_late

-- the row, broken where a number is above its limit
abbrev pub counting : ℕ → ℕ → Extension
counting most_stops most_late =
    recursion (λ s m row. within_limits most_stops most_late m (stops_of row) (late_of row))
    (λ s m row. (stops_of row + 1) ∷ ((late_of row + late_legs m) ∷ []))

-- the number of late legs on a route; a step past the marks is unmarked
abbrev pub all_late : List Step → List ℕ → ℕ
all_late [] ms = 0
all_late (s ∷ ss) [] = late_legs 0 + all_late ss []
all_late (s ∷ ss) (m ∷ ms) = late_legs m + all_late ss ms

-- a route has not too many stops, and not too many late legs
abbrev pub few_enough : ℕ → ℕ → Accepts
few_enough most_stops most_late ss ms = nat_le (length ss) most_stops && nat_le (all_late ss ms) most_late
