-- Steps through a run, and row calls that are granted. Assumes nothing.
use Rattle.std.proofs.Common.{◌≡◌, ℕ, ◌≤◌, Bool, true, List, [], ◌∷◌, length, take, Ok, Result, refl, ap, ◌∙◌, arith, le-leb, ◌*◌, ◌&&◌, eqb, sym}
use Rattle.std.proofs.lemmas.Bool.Decides.{nat_tests}
use Rattle.records.specs.declared.step.Step.{Step}
use Rattle.resource.specs.declared.refusal.Refusal.{Refusal}
use Rattle.resource.specs.Answers.{row_answer, route_answer, day_answer}
use Rattle.resource.specs.Rows.{Extension, run, widest}

pub run_nothing : (ext : Extension) (ss : List Step) (ms : List ℕ) (row : List ℕ) → length ss ≡ 0 → run ext ss ms row ≡ row
run_nothing ext [] ms row none = refl
run_nothing ext (s ∷ ss) ms row none = absurd (omega arith)

-- marks past the steps change nothing
pub run_taken : (ext : Extension) (ss : List Step) (ms : List ℕ) (row : List ℕ) → run ext ss (take (length ss) ms) row ≡ run ext ss ms row
run_taken ext [] ms row = refl
run_taken ext (s ∷ ss) [] row = refl
run_taken ext (s ∷ ss) (m ∷ ms) row = run_taken ext ss ms (ext s m row)

-- what a grant of a call on a route tells
pub record Asked (width steps marks work : ℕ) : Type 0 where
  pub narrow : width ≤ widest
  pub marked : steps ≤ marks
  pub room : 4 * width ≤ work
  pub few : steps ≤ 41
  pub bytes : 41 ≤ marks

pub asked : {X : Type 0} (w width steps marks work : ℕ) (x y : X) → w ≡ width → Ok x ≡ route_answer w steps marks work y → Asked width steps marks work
asked w width steps marks work x y same e = record {
  narrow = grind (arith, nat_tests);
  marked = grind (arith, nat_tests);
  room = grind (arith, nat_tests);
  few = grind (arith, nat_tests);
  bytes = grind (arith, nat_tests);
}

answered : (width steps marks work : ℕ) (u : Unit {0}) (found : Bool) → Ok u ≡ route_answer width steps marks work tt → Ok found ≡ day_answer width steps marks work found
answered width steps marks work u found e = grind (arith, nat_tests)

-- a resource that is not too wide grants a call on rows of its width
pub row_granted : {X : Type 0} (width : ℕ) (rows : Bool) (x : X) → width ≤ widest → rows ≡ true → row_answer width rows x ≡ Ok x
row_granted width rows x narrow fits = rw (le-leb width widest narrow, fits)

-- after the grant the verdict on the route's row is the answer
pub judged : (w width steps marks work : ℕ) (u : Unit {0}) (fits verdict found : Bool) (r : Result Bool Refusal) → w ≡ width → Ok u ≡ route_answer w steps marks work tt → r ≡ row_answer width fits verdict → fits ≡ true → verdict ≡ found → r ≡ day_answer width steps marks work found
judged w width steps marks work u fits verdict found r same e is wide v =
    is ∙ row_granted width fits verdict (asked w width steps marks work u tt same e).narrow wide ∙ ap Ok v
    ∙ answered width steps marks work u found (e ∙ ap (λ n. route_answer n steps marks work tt) same)

-- a row of the width that was made of another answers for it
pub written_answer : (width words from into : ℕ) (r : Result (Unit {0}) Refusal) → words ≡ width → from ≡ width → r ≡ row_answer words (eqb into words) tt → r ≡ row_answer width (eqb from width && eqb into width) tt
written_answer width words from into r made wide e = grind (arith, nat_tests)

pub joined_answer : (width w words from onto : ℕ) (r : Result (Unit {0}) Refusal) → w ≡ width → words ≡ width → from ≡ width → r ≡ row_answer w (eqb words w && eqb onto w) tt → r ≡ row_answer width (eqb from width && eqb onto width) tt
joined_answer width w words from onto r same made wide e =
    e ∙ ap (λ n. row_answer n (eqb words n && eqb onto n) tt) same
    ∙ ap (λ n. row_answer width (eqb n width && eqb onto width) tt) (made ∙ sym wide)
