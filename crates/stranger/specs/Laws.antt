-- The two numbers keep the laws, as they only grow, and their limits hold all along a route where they hold at its end.
-- Assumes nothing.
use Rattle.std.specs.Prelude.{◌≡◌, ℕ, suc, ◌+◌, ◌≤◌, max, Bool, true, false, ◌&&◌, List, [], ◌∷◌, length, nat_le, slice_index, refl}
use Rattle.std.proofs.Common.{sym, ap, ◌∙◌, arith, leb-true, le-leb}
use Rattle.std.proofs.lemmas.Bool.{and_from, and_parts}
use Rattle.records.specs.declared.step.Step.{Step}
use Rattle.resource.specs.Rows.{Lawful, run}
use Rattle.resource.specs.Days.{throughout}
use Rattle.resource.specs.Words.{ceiling, greater, sound}
use Rattle.resource.proofs.Joins.{Joinable, recursion_lawful, get_d_greater, within_both}
use Rattle.resource.proofs.Routes.{run_throughout}
use Rattle.stranger.specs.Counting.{greatest_limit, stops_of, late_of, late_legs, within_limits, counting, all_late, few_enough}

larger : (n a b more : ℕ) → n ≡ max a b → n + more ≡ max (a + more) (b + more)
larger n a b more e = omega arith

-- a word of the join of two rows, with more added to it
more : (x y : List ℕ) (i add : ℕ) → length x ≡ length y → slice_index (greater x y) i + add ≡ max (slice_index x i + add) (slice_index y i + add)
more x y i add e = larger (slice_index (greater x y) i) (slice_index x i) (slice_index y i) add (get_d_greater x y i e)

within_sound : (p q most late : ℕ) → most ≤ greatest_limit → late ≤ greatest_limit → (nat_le p most && nat_le q late) ≡ true → sound (p ∷ (q ∷ [])) ≡ true
within_sound p q most late b c h =
    let parts = and_parts (nat_le p most) (nat_le q late) h in
    let few : p ≤ most = leb-true p most parts.0 in
    let few_late : q ≤ late = leb-true q late parts.1 in
    let low : p ≤ ceiling = omega arith in
    let low_late : q ≤ ceiling = omega arith in
    and_from _ _ (le-leb p ceiling low) (and_from _ _ (le-leb q ceiling low_late) refl)

module _ (most_stops most_late : ℕ) (bounded_stops : most_stops ≤ greatest_limit) (bounded_late : most_late ≤ greatest_limit) where
  joinable : Joinable 2 (λ s m row. within_limits most_stops most_late m (stops_of row) (late_of row)) (λ s m row. (stops_of row + 1) ∷ ((late_of row + late_legs m) ∷ []))
  joinable = record {
    next_width = λ s m x. refl;
    next_sound = λ s m x. within_sound (stops_of x + 1) (late_of x + late_legs m) most_stops most_late bounded_stops bounded_late;
    admits_join = λ s m x y e.
        ap (λ n. nat_le n most_stops && nat_le (late_of (greater x y) + late_legs m) most_late) (more x y 0 1 e)
        ∙ ap (λ n. nat_le (max (stops_of x + 1) (stops_of y + 1)) most_stops && nat_le n most_late) (more x y 1 (late_legs m) e)
        ∙ within_both (stops_of x + 1) (stops_of y + 1) most_stops (late_of x + late_legs m) (late_of y + late_legs m) most_late;
    next_join = λ s m x y e.
        ap (λ n. n ∷ ((late_of (greater x y) + late_legs m) ∷ [])) (more x y 0 1 e)
        ∙ ap (λ n. max (stops_of x + 1) (stops_of y + 1) ∷ (n ∷ [])) (more x y 1 (late_legs m) e);
  }

  pub counting_lawful : Lawful 2 (0 ∷ (0 ∷ [])) (counting most_stops most_late) greater sound
  counting_lawful = recursion_lawful joinable (0 ∷ (0 ∷ [])) refl refl

  -- the two numbers
  abbrev Counted : Type 0
  Counted = ℕ × ℕ

  abbrev holds : Step → ℕ → Counted → Bool
  holds s m x = within_limits most_stops most_late m x.0 x.1

  abbrev count : Step → ℕ → Counted → Counted
  count s m x = (x.0 + 1, x.1 + late_legs m)

  abbrev within : ℕ → ℕ → Bool
  within p q = nat_le p most_stops && nat_le q most_late

  plus_none : (n : ℕ) → 0 + n ≡ n
  plus_none n = omega arith

  and_true : (a : Bool) → (a && true) ≡ a
  and_true true = refl
  and_true false = refl

  absorb : (a b : Bool) → (b ≡ true → a ≡ true) → (a && b) ≡ b
  absorb true b h = refl
  absorb false true h = h refl
  absorb false false h = refl

  -- what holds of two numbers holds of smaller ones
  smaller : (p q a b : ℕ) → within (p + a) (q + b) ≡ true → within p q ≡ true
  smaller p q a b h =
      let parts = and_parts (nat_le (p + a) most_stops) (nat_le (q + b) most_late) h in
      let few : p + a ≤ most_stops = leb-true (p + a) most_stops parts.0 in
      let few_late : q + b ≤ most_late = leb-true (q + b) most_late parts.1 in
      let low : p ≤ most_stops = omega arith in
      let low_late : q ≤ most_late = omega arith in
      and_from _ _ (le-leb p most_stops low) (le-leb q most_late low_late)

  one_step : (p q l a b : ℕ) (later : Bool) → (within (p + 1) (q + l) && later) ≡ within (p + 1 + a) (q + l + b) → (within p q && (within (p + 1) (q + l) && later)) ≡ within (p + suc a) (q + (l + b))
  one_step p q l a b later e =
      let stops : p + 1 + a ≡ p + suc a = omega arith in
      let late : q + l + b ≡ q + (l + b) = omega arith in
      ap (λ r. within p q && r) (e ∙ ap (λ n. within n (q + l + b)) stops ∙ ap (λ n. within (p + suc a) n) late)
      ∙ absorb (within p q) (within (p + suc a) (q + (l + b))) (smaller p q (suc a) (l + b))

  all_along : (ss : List Step) (ms : List ℕ) (p q : ℕ) → (within p q && throughout holds count (p, q) ss ms) ≡ within (p + length ss) (q + all_late ss ms)
  all_along [] ms p q =
      let stops : p + 0 ≡ p = omega arith in
      let late : q + 0 ≡ q = omega arith in
      and_true (within p q) ∙ sym (ap (λ n. within n (q + 0)) stops ∙ ap (within p) late)
  all_along (s ∷ ss) [] p q = one_step p q (late_legs 0) (length ss) (all_late ss []) (throughout holds count (count s 0 (p, q)) ss []) (all_along ss [] (p + 1) (q + late_legs 0))
  all_along (s ∷ ss) (m ∷ ms) p q = one_step p q (late_legs m) (length ss) (all_late ss ms) (throughout holds count (count s m (p, q)) ss ms) (all_along ss ms (p + 1) (q + late_legs m))

  pub counting_keeps : (ss : List Step) (ms : List ℕ) → sound (run (counting most_stops most_late) ss ms (0 ∷ (0 ∷ []))) ≡ few_enough most_stops most_late ss ms
  counting_keeps ss ms =
      let least : 0 ≤ most_stops = omega arith in
      let least_late : 0 ≤ most_late = omega arith in
      run_throughout joinable (λ (x : Counted). x.0 ∷ (x.1 ∷ [])) holds count (λ s m x. refl) (λ s m x. refl) ss ms (0, 0) refl
      ∙ sym (ap (λ b. b && throughout holds count (0, 0) ss ms) (and_from _ _ (le-leb 0 most_stops least) (le-leb 0 most_late least_late)))
      ∙ all_along ss ms 0 0 ∙ ap (λ n. within n (0 + all_late ss ms)) (plus_none (length ss)) ∙ ap (within (length ss)) (plus_none (all_late ss ms))
