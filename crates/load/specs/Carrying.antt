-- What a van has picked up, and the peak of what it carries: what a step with its marks makes of them. A van sets out with
-- all that it is to deliver, so each delivery raises what it carried at every stop before. Assumes nothing.
use Rattle.std.specs.Prelude.{ℕ, ◌+◌, max, Bool, true, ◌&&◌, List, [], ◌∷◌, nat_le, slice_index}
use Rattle.records.specs.declared.step.Step.{Step}
use Rattle.resource.specs.Rows.{Extension}
use Rattle.resource.specs.Scenarios.{Accepts}
use Rattle.resource.specs.Figures.{deliver, pickup}
use Rattle.resource.specs.Words.{recursion}

-- the greatest capacity of a van
abbrev pub greatest_capacity : ℕ
greatest_capacity = 10000

-- the two words of a row
abbrev pub picked_of : List ℕ → ℕ
picked_of row = slice_index row 0

abbrev pub peak_of : List ℕ → ℕ
peak_of row = slice_index row 1

-- all that is picked up by the time the van leaves the stop
abbrev pub picked : Step → ℕ → ℕ → ℕ
picked s m before = before + pickup s m

-- the most that it carries at once until then
abbrev pub peak : Step → ℕ → ℕ → ℕ → ℕ
peak s m picked_before before = max (before + deliver s m) (picked s m picked_before)

-- the row, broken where the peak is above the capacity
abbrev pub carrying : ℕ → Extension
carrying capacity =
    recursion (λ s m row. nat_le (peak s m (picked_of row) (peak_of row)) capacity)
    (λ s m row. picked s m (picked_of row) ∷ (peak s m (picked_of row) (peak_of row) ∷ []))

-- all that steps with their marks have to deliver
abbrev pub to_deliver : List Step → List ℕ → ℕ
to_deliver [] ms = 0
to_deliver (s ∷ ss) [] = deliver s 0 + to_deliver ss []
to_deliver (s ∷ ss) (m ∷ ms) = deliver s m + to_deliver ss ms

-- a van that has picked something up before has room, when it leaves each stop, for all that is picked up by then and all
-- that is still to be delivered
abbrev pub room_on_the_way : ℕ → ℕ → List Step → List ℕ → Bool
room_on_the_way capacity before [] ms = true
room_on_the_way capacity before (s ∷ ss) [] = nat_le (picked s 0 before + to_deliver ss []) capacity && room_on_the_way capacity (picked s 0 before) ss []
room_on_the_way capacity before (s ∷ ss) (m ∷ ms) = nat_le (picked s m before + to_deliver ss ms) capacity && room_on_the_way capacity (picked s m before) ss ms

-- the van has room for all that it is to deliver when it sets out, and for its load when it leaves each stop
abbrev pub never_overloaded : ℕ → Accepts
never_overloaded capacity ss ms = nat_le (to_deliver ss ms) capacity && room_on_the_way capacity 0 ss ms
