-- The hour of leaving keeps the laws: it only grows with the hour before. Assumes nothing.
use Rattle.std.specs.Prelude.{◌≡◌, ℕ, ◌≤◌, max, Bool, true, ◌&&◌, List, [], ◌∷◌, nat_le, refl}
use Rattle.std.proofs.Common.{ap, ◌∙◌, arith}
use Rattle.std.proofs.lemmas.Bool.{and_parts, le-leb}
use Rattle.records.specs.declared.step.Step.{Step}
use Rattle.resource.specs.Rows.{Lawful, run}
use Rattle.resource.specs.Words.{ceiling, greater, sound}
use Rattle.resource.proofs.Joins.{Joinable, recursion_lawful, get_d_greater, within_both}
use Rattle.resource.proofs.Routes.{run_throughout}
use Rattle.time.specs.Hours.{latest_beginning, hour_of, arrival, in_time, leaving, hours, on_time}

and_true : (b : Bool) → b ≡ true → (b && true) ≡ true
and_true b e = ap (λ x. x && true) e

arrival-join : (s : Step) (m a b : ℕ) → arrival s m (max a b) ≡ max (arrival s m a) (arrival s m b)
arrival-join s m a b = omega arith

leaving-join : (s : Step) (m a b : ℕ) → leaving s m (max a b) ≡ max (leaving s m a) (leaving s m b)
leaving-join s m a b = omega arith

in_time-join : (s : Step) (m a b : ℕ) → in_time s m (max a b) ≡ (in_time s m a && in_time s m b)
in_time-join s m a b =
    ap (λ hour. nat_le hour s.stop.closes && nat_le (leaving s m (max a b)) ceiling) (arrival-join s m a b)
    ∙ ap (λ hour. nat_le (max (arrival s m a) (arrival s m b)) s.stop.closes && nat_le hour ceiling) (leaving-join s m a b)
    ∙ within_both (arrival s m a) (arrival s m b) s.stop.closes (leaving s m a) (leaving s m b) ceiling

joinable : Joinable 1 (λ s m row. in_time s m (hour_of row)) (λ s m row. leaving s m (hour_of row) ∷ [])
joinable = record {
  next_width = λ s m x. refl;
  next_sound = λ s m x h. and_true (nat_le (leaving s m (hour_of x)) ceiling) (and_parts _ _ h).1;
  admits_join = λ s m x y e. ap (in_time s m) (get_d_greater x y 0 e) ∙ in_time-join s m (hour_of x) (hour_of y);
  next_join = λ s m x y e. ap (λ hour. leaving s m hour ∷ []) (get_d_greater x y 0 e) ∙ ap (λ hour. hour ∷ []) (leaving-join s m (hour_of x) (hour_of y));
}

begins-sound : (beginning : ℕ) → beginning ≤ latest_beginning → sound (beginning ∷ []) ≡ true
begins-sound beginning early = let below : beginning ≤ ceiling = omega arith in and_true (nat_le beginning ceiling) (le-leb beginning ceiling below)

pub hours_lawful : (beginning : ℕ) → beginning ≤ latest_beginning → Lawful 1 (beginning ∷ []) hours greater sound
hours_lawful beginning early =
    recursion_lawful joinable (beginning ∷ []) refl (begins-sound beginning early)

pub hours_keep : (beginning : ℕ) → beginning ≤ latest_beginning → (ss : List Step) (ms : List ℕ) → sound (run hours ss ms (beginning ∷ [])) ≡ on_time beginning ss ms
hours_keep beginning early ss ms = run_throughout joinable (λ hour. hour ∷ []) in_time leaving (λ s m hour. refl) (λ s m hour. refl) ss ms beginning (begins-sound beginning early)
