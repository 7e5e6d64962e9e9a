-- The loops over a route. Assumes nothing.
use Rattle.std.proofs.Common.{◌≡◌, ℕ, zero, suc, ◌+◌, ◌<◌, ◌≤◌, true, List, [], ◌∷◌, ◌++◌, length, get_or, drop, set, sym, refl, ap, ◌∙◌, arith}
use Rattle.std.proofs.lemmas.List.{drop_more, at_drop_all}
use Rattle.std.proofs.lemmas.Bool.{and_parts, leb-true}
use Rattle.records.specs.declared.Stop.{Stop}
use Rattle.records.specs.declared.Leg.{Leg}
use Rattle.records.specs.declared.step.Step.{Step}
use Rattle.records.specs.Records.{window_only}
use Rattle.records.proofs.Writing.{Sofar, nothing_yet, one_written, all_written}
use Rattle.records.specs.Steps.{stop_of, leg_of, steps_from, in_table, are_stops}

pub stop_at_lem : (ks : List ℕ) (i : ℕ) → i < length ks → are_stops ks ≡ true → get_or ks i 0 ≤ 40
stop_at_lem [] i h t = absurd (omega arith)
stop_at_lem (k ∷ ks) zero h t = leb-true k 40 (and_parts _ _ (and_parts _ _ t).0).1
stop_at_lem (k ∷ ks) (suc i) h t = stop_at_lem ks i (omega arith) (and_parts _ _ t).1

pub inside_at : (ks : List ℕ) (i : ℕ) → i < length ks → in_table ks ≡ true → get_or ks i 0 ≤ 40
inside_at [] i h t = absurd (omega arith)
inside_at (k ∷ ks) zero h t = leb-true k 40 (and_parts _ _ t).0
inside_at (k ∷ ks) (suc i) h t = inside_at ks i (omega arith) (and_parts _ _ t).1

pub length_steps : (ss : List Stop) (ls : List Leg) (i : ℕ) (ks : List ℕ) → length (steps_from ss ls i ks) ≡ length ks + 1
length_steps ss ls i [] = refl
length_steps ss ls i (k ∷ ks) = ap suc (length_steps ss ls k ks) ∙ omega arith

-- the steps to the stops before number `at` are written, and the van stands at place `from`
pub record Walking (ss : List Stop) (ls : List Leg) (ks : List ℕ) (old out : List Step) (from at : ℕ) : Type 0 where
  pub near : from ≤ 40
  pub sofar : Sofar (steps_from ss ls 0 ks) old out (steps_from ss ls from (drop at ks)) at

pub at_depot : (ss : List Stop) (ls : List Leg) (ks : List ℕ) (old : List Step) → Walking ss ls ks old old 0 0
at_depot ss ls ks old = record { near = omega arith; sofar = nothing_yet (steps_from ss ls 0 ks) old }

module _ (ss : List Stop) (ls : List Leg) (ks : List ℕ) (old out : List Step) (from at : ℕ) (w : Walking ss ls ks old out from at) (room : length ks + 1 ≤ length out) where
  short : length (steps_from ss ls 0 ks) ≤ length out
  short = omega (arith, length_steps ss ls 0 ks)

  pub walk_on : (k : ℕ) (s : Step) → at < length ks → k ≡ get_or ks at 0 → k ≤ 40 → s ≡ record { leg = leg_of ls from k; stop = stop_of ss k } → Walking ss ls ks old (set out at s) k (at + 1)
  walk_on k s g is small e = record {
    near = small;
    sofar = one_written _ _ _ _ _ w.sofar short s (steps_from ss ls k (drop (at + 1) ks)) (ap (steps_from ss ls from) (drop_more ks at 0 g) ∙ (λ i. record { leg = leg_of ls from (sym is i); stop = stop_of ss (sym is i) } ∷ steps_from ss ls (sym is i) (drop (at + 1) ks)) ∙ ap (λ q. q ∷ steps_from ss ls k (drop (at + 1) ks)) (sym e));
  }

  pub walk_home : (s : Step) → at ≡ length ks → s ≡ record { leg = leg_of ls from 0; stop = window_only (stop_of ss 0).opens (stop_of ss 0).closes } → set out (length ks) s ≡ steps_from ss ls 0 ks ++ drop (length ks + 1) old
  walk_home s all e =
      ap (λ n. set out n s) (sym all) ∙ all_written _ _ _ _ _ (one_written _ _ _ _ _ w.sofar short s [] (at_drop_all (steps_from ss ls from) ks at (omega arith) ∙ ap (λ q. q ∷ []) (sym e))) refl ∙ ap (λ n. steps_from ss ls 0 ks ++ drop n old) (length_steps ss ls 0 ks)
