-- What a granted call answered. Assumes nothing.
use Rattle.std.proofs.Common.{◌≡◌, ℕ, ◌*◌, ◌≤◌, Bool, true, false, cond, ◌&&◌, leb, List, ◌++◌, length, drop, is_some, Some, None, Ok, Err, Option, Result, refl, ap, ◌∙◌, arith}
use Rattle.std.proofs.lemmas.List.{drop_at}
use Rattle.std.proofs.lemmas.Bool.{cond-true, le-leb, and_from, both_ways}
use Rattle.resource.specs.declared.refusal.Refusal.{Refusal}
use Rattle.resource.specs.declared.refusal.Refusal.TheVariants.{OtherWidth, TooWide}
use Rattle.resource.specs.Rows.{widest}
use Rattle.resource.specs.Answers.{row_answer, written, day_answer, day_list}

pub now_written : {X : Type 0} (r : Result X Refusal) (x : X) (new old row : List ℕ) → r ≡ Ok x → row ≡ written r new old → row ≡ new
now_written r x new old row granted is = is ∙ ap (λ q. written q new old) granted

two_questions : {T E : Type 0} (a b : Bool) (p q : E) (x y : T) → ◌≡◌ {A = Result T E} (Ok x) (cond a (cond b (Ok y) (Err p)) (Err q)) → x ≡ y
two_questions true true p q x y e = cc
two_questions true false p q x y e = absurd (let z : ◌≡◌ {A = ℕ} 0 1 = cc in omega arith)
two_questions false b p q x y e = absurd (let z : ◌≡◌ {A = ℕ} 0 1 = cc in omega arith)

pub granted : {T : Type 0} (w : ℕ) (b : Bool) (x y : T) → Ok x ≡ row_answer w b y → x ≡ y
granted w b x y e = two_questions (leb w widest) b OtherWidth TooWide x y e

pub day_granted : (width steps marks work : ℕ) (found : Bool) → width ≤ widest → steps ≤ 41 → 4 * width ≤ work → 41 ≤ marks → day_answer width steps marks work found ≡ Ok found
day_granted width steps marks work found narrow few room bytes =
    cond-true (leb width widest) _ _ (le-leb width widest narrow)
    ∙ cond-true (leb steps 41) _ _ (le-leb steps 41 few)
    ∙ cond-true (leb (4 * width) work && leb 41 marks) _ _ (and_from _ _ (le-leb (4 * width) work room) (le-leb 41 marks bytes))

-- a day found writes over the first bytes alone, so marks put there before do not show
pub day_list_lem : (day : Option (List ℕ)) (found : Bool) (n : ℕ) (new old : List ℕ) → length new ≡ n → ((d : List ℕ) → day ≡ Some d → length d ≡ n) → is_some day ≡ true
    → day_list (Ok found) day (new ++ drop n old) ≡ day_list (Ok found) day old
day_list_lem None found n new old long sized some = absurd (both_ways false refl some)
day_list_lem (Some d) found n new old long sized some =
    ap (λ z. d ++ z) (rw (sized d refl) (drop_at new (drop n old) n long))
