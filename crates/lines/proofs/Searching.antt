-- The first item of a slice that a search by `find_map` has a result for. Assumes nothing.
use Rattle.std.proofs.Common.{◌≡◌, ℕ, zero, suc, ◌+◌, ◌<◌, List, [], ◌∷◌, length, get_or, Some, None, Option, Bor, sym, ap, ◌∙◌, arith}
use denote.Param.Members.{Mut}
use Rattle.std.specs.Bool.{IsTrue}
use Rattle.std.specs.Fn.{Called}
use Rattle.std.specs.Option.{MatchOption, IfSome, IsSomeAnd, option_map, option_or}
use Rattle.std.specs.Iterator.Runs.{Run, CallKeepsClosure, ItemsMapTo, AllItemsGive, IsFirstToGive}

-- `first` gives what h gives for the first item for which it gives something
module _ {A D : Type 0} (h : A → Option D) (first : List A → Option D) (none : first [] ≡ None) (more : (x : A) (xs : List A) → first (x ∷ xs) ≡ option_or (h x) (first xs)) where
  nowhere : (xs : List A) → ((k : ℕ) (d : A) → k < length xs → h (get_or xs k d) ≡ None) → first xs ≡ None
  nowhere [] e = none
  nowhere (x ∷ xs) e = more x xs ∙ ap (λ o. option_or o (first xs)) (e 0 x (omega arith)) ∙ nowhere xs (λ k d l. e (suc k) d (omega arith))

  here_first : (xs : List A) (i : ℕ) (y : D) → i < length xs → ((d : A) → h (get_or xs i d) ≡ Some y) → ((k : ℕ) (d : A) → k < i → h (get_or xs k d) ≡ None) → first xs ≡ Some y
  here_first [] i y l e before = absurd (omega arith)
  here_first (x ∷ xs) zero y l e before = more x xs ∙ ap (λ o. option_or o (first xs)) (e x)
  here_first (x ∷ xs) (suc i) y l e before =
      more x xs ∙ ap (λ o. option_or o (first xs)) (before 0 x (omega arith)) ∙ here_first xs i y (omega arith) e (λ k d m. before (suc k) d (omega arith))

  module _ {S F C : Type 0} {steps : S → Option (Bor A) → S → Type 0} (p : Run steps) (g : Mut F (Bor A × Unit {0}) (Option C)) (f : F) (w : C → D) (keeps : CallKeepsClosure g f) (gives : (x : Bor A) (r : Option C) → Called g f (x, tt) r f → option_map w r ≡ h x.now) where
    at_item : (o : Option (Bor A)) (a : A) (r : Option C) → option_map (λ x. x.now) o ≡ Some a → IfSome o (λ x. Called g f (x, tt) r f) → h a ≡ option_map w r
    at_item None a r e c = cc
    at_item (Some x) a r e c = let same : x.now ≡ a = cc in ap h (sym same) ∙ sym (gives x r c)

    some_item : (o : Option (Bor A)) (r : Option C) → IsSomeAnd o (λ x. Called g f (x, tt) r f) → IfSome o (λ x. Called g f (x, tt) r f)
    some_item None r c = tt
    some_item (Some x) r c = c

    pub first_from_find_map : (xs : List A) → ItemsMapTo p (λ x. x.now) xs → (r : Option C) → MatchOption r (IsTrue p.whole × AllItemsGive p g f None) (λ y. (i : ℕ) × (i < p.len) × (p.len ≡ i + 1) × IsFirstToGive p g f (Some y) None i) → option_map w r ≡ first xs
    first_from_find_map xs items None ran =
        let all = items.1 ran.0 in
        sym (nowhere xs (λ k d l. at_item (p.at k) (get_or xs k d) None (items.2 k d (omega arith)) (ran.1 keeps k)))
    first_from_find_map xs items (Some y) ran =
        let within = ran.1 in
        let here = ran.3 keeps in
        let most = items.0 in
        sym (here_first xs ran.0 (w y) (omega arith) (λ d. at_item (p.at ran.0) (get_or xs ran.0 d) (Some y) (items.2 ran.0 d (omega arith)) (some_item (p.at ran.0) (Some y) here.0))
        (λ k d l. at_item (p.at k) (get_or xs k d) None (items.2 k d (omega arith)) (some_item (p.at k) None (here.1 k l))))
