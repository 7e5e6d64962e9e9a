-- The peak stays within the capacity exactly where the van has room for its load all along the route. Assumes nothing.
use Rattle.std.specs.Prelude.{◌≡◌, ℕ, ◌+◌, ◌≤◌, max, Bool, true, false, ◌&&◌, List, [], ◌∷◌, nat_le, refl}
use Rattle.std.proofs.Common.{sym, ap, ◌∙◌, arith, leb-true, le-leb}
use Rattle.records.specs.declared.step.Step.{Step}
use Rattle.resource.specs.Rows.{run}
use Rattle.resource.specs.Days.{throughout}
use Rattle.resource.specs.Figures.{deliver}
use Rattle.resource.specs.Words.{sound}
use Rattle.resource.proofs.Joins.{leb_max}
use Rattle.resource.proofs.Routes.{run_throughout}
use Rattle.load.specs.Carrying.{greatest_capacity, picked, peak, carrying, to_deliver, room_on_the_way, never_overloaded}
use Rattle.load.specs.Laws.{joinable}

-- what is picked up, and the peak
abbrev Carried : Type 0
Carried = ℕ × ℕ

abbrev fits : ℕ → Step → ℕ → Carried → Bool
fits capacity s m x = nat_le (peak s m x.0 x.1) capacity

abbrev carry : Step → ℕ → Carried → Carried
carry s m x = (picked s m x.0, peak s m x.0 x.1)

absorb : (a b c d : Bool) → (b ≡ true → a ≡ true) → (a && ((b && c) && d)) ≡ (b && (c && d))
absorb a true c d h = ap (λ x. x && (c && d)) (h refl)
absorb true false c d h = refl
absorb false false c d h = refl

-- the greater of two loads with what is still to be delivered
room : (before d p rest capacity : ℕ) (later : Bool) → (nat_le before capacity && (nat_le (max (before + d) p + rest) capacity && later)) ≡ (nat_le (before + (d + rest)) capacity && (nat_le (p + rest) capacity && later))
room before d p rest capacity later =
    let e : max (before + d) p + rest ≡ max (before + (d + rest)) (p + rest) = omega arith in
    ap (λ n. nat_le before capacity && (nat_le n capacity && later)) e
    ∙ ap (λ b. nat_le before capacity && (b && later)) (leb_max (before + (d + rest)) (p + rest) capacity)
    ∙ absorb (nat_le before capacity) (nat_le (before + (d + rest)) capacity) (nat_le (p + rest) capacity) later
    (λ h. let low : before + (d + rest) ≤ capacity = leb-true (before + (d + rest)) capacity h in
    let below : before ≤ capacity = omega arith in le-leb before capacity below)

module _ (capacity : ℕ) where
  all_along : (ss : List Step) (ms : List ℕ) (p k : ℕ) → (nat_le k capacity && throughout (fits capacity) carry (p, k) ss ms) ≡ (nat_le (k + to_deliver ss ms) capacity && room_on_the_way capacity p ss ms)
  all_along [] ms p k = let e : k ≡ k + 0 = omega arith in ap (λ n. nat_le n capacity && true) e
  all_along (s ∷ ss) [] p k =
      ap (λ b. nat_le k capacity && b) (all_along ss [] (picked s 0 p) (peak s 0 p k))
      ∙ room k (deliver s 0) (picked s 0 p) (to_deliver ss []) capacity (room_on_the_way capacity (picked s 0 p) ss [])
  all_along (s ∷ ss) (m ∷ ms) p k =
      ap (λ b. nat_le k capacity && b) (all_along ss ms (picked s m p) (peak s m p k))
      ∙ room k (deliver s m) (picked s m p) (to_deliver ss ms) capacity (room_on_the_way capacity (picked s m p) ss ms)

  from_the_start : (ss : List Step) (ms : List ℕ) → throughout (fits capacity) carry (0, 0) ss ms ≡ never_overloaded capacity ss ms
  from_the_start ss ms =
      let least : 0 ≤ capacity = omega arith in
      let e : 0 + to_deliver ss ms ≡ to_deliver ss ms = omega arith in
      sym (ap (λ b. b && throughout (fits capacity) carry (0, 0) ss ms) (le-leb 0 capacity least))
      ∙ all_along ss ms 0 0 ∙ ap (λ n. nat_le n capacity && room_on_the_way capacity 0 ss ms) e

pub carrying_keeps : (capacity : ℕ) → capacity ≤ greatest_capacity → (ss : List Step) (ms : List ℕ) → sound (run (carrying capacity) ss ms (0 ∷ (0 ∷ []))) ≡ never_overloaded capacity ss ms
carrying_keeps capacity bounded ss ms =
    run_throughout (joinable capacity bounded) (λ (x : Carried). x.0 ∷ (x.1 ∷ [])) (fits capacity) carry (λ s m x. refl) (λ s m x. refl) ss ms (0, 0) refl
    ∙ from_the_start capacity ss ms
