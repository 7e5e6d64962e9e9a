-- First day of a resource that is no layer: it is found where the route is refused, and adds no mark. Assumes nothing.
use Rattle.std.proofs.Common.{◌≡◌, ℕ, ◌≤◌, Bool, true, false, cond, not, List, [], ◌++◌, length, take, drop, is_some, Some, None, Ok, Err, sym, refl, ap, ◌∙◌, arith, take-append-drop}
use Rattle.std.proofs.lemmas.List.{length-take-le}
use Rattle.std.proofs.lemmas.Bool.Decides.{nat_tests}
use Rattle.records.specs.declared.step.Step.{Step}
use Rattle.resource.specs.declared.refusal.Refusal.{Refusal}
use Rattle.resource.specs.Answers.{day_answer, day_list}
use Rattle.resource.specs.Scenarios.{Accepts, survives, first_day}
use Rattle.resource.specs.Unmarked.{unmarked, survives_unmarked}

first_day_unmarked : (accepts : Accepts) (ss : List Step) (ms : List ℕ) → length ms ≡ length ss → first_day accepts [] ss ms ≡ cond (survives accepts [] ss ms) None (Some ms)
first_day_unmarked accepts ss ms e = ap (λ ns. cond (accepts ss ns) None (Some ns)) (unmarked ms ss e) ∙ ap (λ b. cond b None (Some ms)) (sym (survives_unmarked accepts ss ms e))

some_unless : {X : Type 0} (b : Bool) (x : X) → is_some (cond b None (Some x)) ≡ not b
some_unless true x = refl
some_unless false x = refl

-- a grant tells that the list has a byte for each step, and what the answer is
granted : (width n marks work : ℕ) (found b : Bool) → Ok b ≡ day_answer width n marks work found → (n ≤ marks) × (b ≡ found)
granted width n marks work found b e = (grind (arith, nat_tests), grind (arith, nat_tests))

regranted : (width n marks work : ℕ) (found b other : Bool) → Ok b ≡ day_answer width n marks work found → Ok other ≡ day_answer width n marks work other
regranted width n marks work found b other e = grind (arith, nat_tests)

-- a refusal is the same whatever the answer would have been
pub refused : (width n marks work : ℕ) (a b : Bool) (e : Refusal) → Err e ≡ day_answer width n marks work a → Err e ≡ day_answer width n marks work b
refused width n marks work a b e is = grind (arith, nat_tests)

same_list : (b : Bool) (n : ℕ) (marks : List ℕ) → length (take n marks) ≡ n → marks ≡ day_list (Ok (not b)) (cond b None (Some (take n marks))) marks
same_list true n marks e = refl
same_list false n marks e = sym (ap (λ i. take n marks ++ drop i marks) e ∙ take-append-drop n marks)

module _ (accepts : Accepts) (ss : List Step) (marks : List ℕ) (width work : ℕ) (accepted : Bool) (judged : Ok accepted ≡ day_answer width (length ss) (length marks) work (survives accepts [] ss (take (length ss) marks))) where
  abbrev ms : List ℕ
  ms = take (length ss) marks

  told : (length ss ≤ length marks) × (accepted ≡ survives accepts [] ss ms)
  told = granted width (length ss) (length marks) work _ accepted judged

  found : first_day accepts [] ss ms ≡ cond accepted None (Some ms)
  found = first_day_unmarked accepts ss ms (length-take-le (length ss) marks told.0) ∙ ap (λ b. cond b None (Some ms)) (sym told.1)

  pub found_unless_accepted : Ok (not accepted) ≡ day_answer width (length ss) (length marks) work (is_some (first_day accepts [] ss (take (length ss) marks)))
  found_unless_accepted =
      regranted width (length ss) (length marks) work _ accepted (not accepted) judged
      ∙ ap (day_answer width (length ss) (length marks) work) (sym (ap is_some found ∙ some_unless accepted ms))

  pub list_stays : marks ≡ day_list (Ok (not accepted)) (first_day accepts [] ss (take (length ss) marks)) marks
  list_stays =
      same_list accepted (length ss) marks (length-take-le (length ss) marks told.0)
      ∙ ap (λ day. day_list (Ok (not accepted)) day marks) (sym found)
