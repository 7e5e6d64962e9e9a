-- A test of all items of a list, from what a search for one that fails it found. Assumes nothing.
use Rattle.std.proofs.Common.{◌≡◌, ℕ, zero, suc, ◌<◌, Bool, true, false, ◌&&◌, List, [], ◌∷◌, length, sym, ap, ◌∙◌, arith}
use Rattle.std.proofs.lemmas.Bool.{and_right}
use Rattle.std.specs.Bool.{MatchBool}
use Rattle.std.specs.List.{AllWithin, HoldsAt}

module _ {X : Type 0} (passes : X → Bool) (all : List X → Bool) (none : all [] ≡ true) (more : (x : X) (xs : List X) → all (x ∷ xs) ≡ (passes x && all xs)) where
  all_pass : (xs : List X) → AllWithin (λ x. passes x ≡ true) xs 0 (length xs) → true ≡ all xs
  all_pass [] h = sym none
  all_pass (x ∷ xs) h = sym (more x xs ∙ (λ i. h 0 x (omega arith) (omega arith) i && sym (all_pass xs (λ k d a b. h (suc k) d (omega arith) (omega arith))) i))

  one_fails : (xs : List X) (k : ℕ) → k < length xs → HoldsAt (λ x. passes x ≡ false) xs k → false ≡ all xs
  one_fails [] k b h = absurd (omega arith)
  one_fails (x ∷ xs) zero b h = sym (more x xs ∙ ap (λ b. b && all xs) (h x))
  one_fails (x ∷ xs) (suc k) b h = sym (more x xs ∙ and_right _ _ (sym (one_fails xs k (omega arith) (λ d. h d))))

  pub all_from_search : (xs : List X) (r : Bool) → MatchBool r (AllWithin (λ x. passes x ≡ true) xs 0 (length xs)) ((k : ℕ) × (k < length xs) × HoldsAt (λ x. passes x ≡ false) xs k) → r ≡ all xs
  all_from_search xs true h = all_pass xs h
  all_from_search xs false h = one_fails xs h.0 h.1 h.2
