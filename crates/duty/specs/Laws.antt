-- The driving time keeps the laws: it only grows with the driving time before. Assumes nothing.
use Rattle.std.specs.Prelude.{◌≡◌, ℕ, ◌≤◌, max, Bool, true, false, cond, List, [], ◌∷◌, ◌==◌, nat_le, refl}
use Rattle.std.proofs.Common.{ap, ◌∙◌, arith}
use Rattle.std.proofs.lemmas.Bool.Decides.{nat_tests}
use Rattle.records.specs.declared.step.Step.{Step}
use Rattle.resource.specs.Rows.{Lawful, run}
use Rattle.resource.specs.Words.{greater, sound}
use Rattle.resource.proofs.Joins.{Joinable, recursion_lawful, get_d_greater, leb_max}
use Rattle.resource.proofs.Routes.{run_throughout}
use Rattle.duty.specs.Driving.{greatest_limit, driven_of, driven, after_stop, within_limit, driving, rests_in_time}

driven-join : (s : Step) (m a b : ℕ) → driven s m (max a b) ≡ max (driven s m a) (driven s m b)
driven-join s m a b = omega arith

either_join : (rests : Bool) (a b : ℕ) → cond rests (max a b) 0 ≡ max (cond rests a 0) (cond rests b 0)
either_join true a b = refl
either_join false a b = refl

after_stop-join : (s : Step) (m a b : ℕ) → after_stop s m (max a b) ≡ max (after_stop s m a) (after_stop s m b)
after_stop-join s m a b =
    ap (λ n. cond (s.stop.rest == 0) n 0) (driven-join s m a b) ∙ either_join (s.stop.rest == 0) (driven s m a) (driven s m b)

after_stop-sound : (s : Step) (m a limit : ℕ) → limit ≤ greatest_limit → nat_le (driven s m a) limit ≡ true → sound (after_stop s m a ∷ []) ≡ true
after_stop-sound s m a limit h e = grind (arith, nat_tests)

joinable : (limit : ℕ) → limit ≤ greatest_limit → Joinable 1 (λ s m row. within_limit limit s m (driven_of row)) (λ s m row. after_stop s m (driven_of row) ∷ [])
joinable limit bounded = record {
  next_width = λ s m x. refl;
  next_sound = λ s m x. after_stop-sound s m (driven_of x) limit bounded;
  admits_join = λ s m x y e. ap (λ before. nat_le (driven s m before) limit) (get_d_greater x y 0 e) ∙ ap (λ n. nat_le n limit) (driven-join s m (driven_of x) (driven_of y)) ∙ leb_max (driven s m (driven_of x)) (driven s m (driven_of y)) limit;
  next_join = λ s m x y e. ap (λ before. after_stop s m before ∷ []) (get_d_greater x y 0 e) ∙ ap (λ n. n ∷ []) (after_stop-join s m (driven_of x) (driven_of y));
}

pub driving_lawful : (limit : ℕ) → limit ≤ greatest_limit → Lawful 1 (0 ∷ []) (driving limit) greater sound
driving_lawful limit bounded = recursion_lawful (joinable limit bounded) (0 ∷ []) refl refl

pub driving_keeps : (limit : ℕ) → limit ≤ greatest_limit → (ss : List Step) (ms : List ℕ) → sound (run (driving limit) ss ms (0 ∷ [])) ≡ rests_in_time limit ss ms
driving_keeps limit bounded ss ms = run_throughout (joinable limit bounded) (λ before. before ∷ []) (within_limit limit) after_stop (λ s m before. refl) (λ s m before. refl) ss ms 0 refl
