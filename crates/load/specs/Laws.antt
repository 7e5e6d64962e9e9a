-- What is picked up and the peak keep the laws: they only grow with those before. Assumes nothing.
use Rattle.std.specs.Prelude.{◌≡◌, ℕ, ◌≤◌, max, true, List, [], ◌∷◌, length, nat_le, refl}
use Rattle.std.proofs.Common.{ap, ◌∙◌, arith, leb-true, le-leb}
use Rattle.std.proofs.lemmas.Bool.{and_from}
use Rattle.records.specs.declared.step.Step.{Step}
use Rattle.resource.specs.Rows.{Lawful}
use Rattle.resource.specs.Words.{ceiling, greater, sound}
use Rattle.resource.proofs.Joins.{Joinable, recursion_lawful, get_d_greater, leb_max}
use Rattle.load.specs.Carrying.{greatest_capacity, picked_of, peak_of, picked, peak, carrying}

picked-join : (s : Step) (m a b : ℕ) → picked s m (max a b) ≡ max (picked s m a) (picked s m b)
picked-join s m a b = omega arith

peak-join : (s : Step) (m a b u v : ℕ) → peak s m (max a b) (max u v) ≡ max (peak s m a u) (peak s m b v)
peak-join s m a b u v = omega arith

-- the peak of a join, by the peaks of the rows
peaks : (s : Step) (m : ℕ) (x y : List ℕ) → length x ≡ length y → peak s m (picked_of (greater x y)) (peak_of (greater x y)) ≡ max (peak s m (picked_of x) (peak_of x)) (peak s m (picked_of y) (peak_of y))
peaks s m x y e = rw (get_d_greater x y 0 e, get_d_greater x y 1 e) (peak-join s m (picked_of x) (picked_of y) (peak_of x) (peak_of y))

within_sound : (s : Step) (m a u capacity : ℕ) → capacity ≤ greatest_capacity → nat_le (peak s m a u) capacity ≡ true → sound (picked s m a ∷ (peak s m a u ∷ [])) ≡ true
within_sound s m a u capacity bounded h =
    let within : peak s m a u ≤ capacity = leb-true (peak s m a u) capacity h in
    let low : picked s m a ≤ ceiling = omega arith in
    let high : peak s m a u ≤ ceiling = omega arith in
    and_from _ _ (le-leb (picked s m a) ceiling low) (and_from _ _ (le-leb (peak s m a u) ceiling high) refl)

pub joinable : (capacity : ℕ) → capacity ≤ greatest_capacity → Joinable 2 (λ s m row. nat_le (peak s m (picked_of row) (peak_of row)) capacity) (λ s m row. picked s m (picked_of row) ∷ (peak s m (picked_of row) (peak_of row) ∷ []))
joinable capacity bounded = record {
  next_width = λ s m x. refl;
  next_sound = λ s m x. within_sound s m (picked_of x) (peak_of x) capacity bounded;
  admits_join = λ s m x y e. ap (λ n. nat_le n capacity) (peaks s m x y e) ∙ leb_max (peak s m (picked_of x) (peak_of x)) (peak s m (picked_of y) (peak_of y)) capacity;
  next_join = λ s m x y e. ap (λ n. picked s m n ∷ (peak s m (picked_of (greater x y)) (peak_of (greater x y)) ∷ [])) (get_d_greater x y 0 e)
      ∙ ap (λ n. n ∷ (peak s m (picked_of (greater x y)) (peak_of (greater x y)) ∷ [])) (picked-join s m (picked_of x) (picked_of y))
      ∙ ap (λ n. max (picked s m (picked_of x)) (picked s m (picked_of y)) ∷ (n ∷ [])) (peaks s m x y e);
}

pub carrying_lawful : (capacity : ℕ) → capacity ≤ greatest_capacity → Lawful 2 (0 ∷ (0 ∷ [])) (carrying capacity) greater sound
carrying_lawful capacity bounded = recursion_lawful (joinable capacity bounded) (0 ∷ (0 ∷ [])) refl refl
