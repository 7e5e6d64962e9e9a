-- A call on a pair's rows is a call on each side's part of them. Assumes nothing.
use Rattle.std.proofs.Common.{◌≡◌, ℕ, ◌+◌, ◌-◌, ◌≤◌, Bool, ◌&&◌, eqb, List, ◌++◌, length, take, drop, Ok, Result, sym, ap, ◌∙◌, arith, eq-eqb}
use borrow.Rule.Slice.PartMut.{put_mid}
use Rattle.std.proofs.lemmas.List.{append-nil, length-drop, take_at, drop_at, drop_all, take_rest}
use Rattle.std.proofs.lemmas.Bool.{and_from}
use Rattle.std.proofs.lemmas.Bool.Decides.{nat_tests}
use Rattle.resource.specs.declared.refusal.Refusal.{Refusal}
use Rattle.resource.specs.Answers.{row_answer, written}
use Rattle.resource.specs.Rows.{widest}
use Rattle.resource.proofs.Runs.{row_granted}
use Rattle.pair.specs.Sides.{pair_width, pair_verdict}
use Rattle.pair.specs.Laws.{both, length_front, length_back, width_is}

-- what a granted split of a row of n words tells
pub record Split (a b at n : ℕ) : Type 0 where
  pub same : at ≡ a
  pub narrow : a + b ≤ widest
  pub wide : n ≡ a + b

pub split_tells : {a b at n : ℕ} → Ok at ≡ row_answer (pair_width a b) (eqb n (pair_width a b)) a → Split a b at n
split_tells {a} {b} {at} {n} h = record { same = grind (arith, nat_tests); narrow = grind (arith, nat_tests); wide = grind (arith, nat_tests) }

-- the back of a row, as the code cuts it
pub back_is : {a at : ℕ} (row : List ℕ) → at ≡ a → take (length row - at) (drop at row) ≡ drop a row
back_is {at = at} row same = take_rest row at ∙ ap (λ n. drop n row) same

-- two rows that are both granted are cut at one place
pub along : {a b at n here m : ℕ} → Split a b at n → Split a b here m → Split a b at m
along one other = record { same = one.same; narrow = one.narrow; wide = other.wide }

-- a call on rows of the pair's width is granted
pub pair_granted : {X : Type 0} {a b at : ℕ} (row : List ℕ) (x : X) → Split a b at (length row) → row_answer (pair_width a b) (eqb (length row) (pair_width a b)) x ≡ Ok x
pair_granted {a = a} {b = b} row x split =
    ap (λ n. row_answer n (eqb (length row) n) x) (width_is a b split.narrow)
    ∙ row_granted (a + b) _ x split.narrow (eq-eqb _ _ split.wide)

pub pair_granted_both : {X : Type 0} {a b at : ℕ} (from onto : List ℕ) (x : X) → Split a b at (length from) → Split a b at (length onto) → row_answer (pair_width a b) (eqb (length from) (pair_width a b) && eqb (length onto) (pair_width a b)) x ≡ Ok x
pair_granted_both {a = a} {b = b} from onto x one other =
    ap (λ n. row_answer n (eqb (length from) n && eqb (length onto) n) x) (width_is a b one.narrow)
    ∙ row_granted (a + b) _ x one.narrow (and_from _ _ (eq-eqb _ _ one.wide) (eq-eqb _ _ other.wide))

-- The first side wrote p to the front of a row of the pair, then the second writes to its back.
module _ {a b at : ℕ} (old p : List ℕ) (split : Split a b at (length old)) (front : length p ≡ length (take at old)) where
  abbrev mid : List ℕ
  mid = p ++ drop at old

  -- the back, as the code cuts it
  abbrev rest : List ℕ
  rest = take (length mid - at) (drop at mid)

  front_wide : length p ≡ at
  front_wide = front ∙ ap (λ n. length (take n old)) split.same ∙ length_front a b old split.wide ∙ sym split.same

  rest_is : rest ≡ drop a old
  rest_is = take_rest mid at ∙ drop_at p (drop at old) at front_wide ∙ ap (λ n. drop n old) split.same

  pub rest_wide : length rest ≡ b
  rest_wide = ap length rest_is ∙ length_back a b old split.wide

  pub row_is : (q x y : List ℕ) (r : Result (Unit {0}) Refusal) → r ≡ Ok tt → p ≡ x → q ≡ written r y rest → put_mid at (length mid - at) mid q ≡ written r (x ++ y) old
  row_is q x y r granted first second =
      let none : length (drop at mid) ≤ length mid - at = simp length-drop (omega arith) in
      both (λ u v. u ++ (q ++ v)) (take_at p (drop at old) at front_wide) (drop_all (length mid - at) (drop at mid) none)
      ∙ both (λ u v. u ++ v) first (append-nil q ∙ second ∙ ap (λ s. written s y rest) granted) ∙ sym (ap (λ s. written s (x ++ y) old) granted)

-- neither side is too wide
pub first_narrow : {a b at n : ℕ} → Split a b at n → a ≤ widest
first_narrow {a} {b} split = let h : a + b ≤ widest = split.narrow in omega arith

pub second_narrow : {a b at n : ℕ} → Split a b at n → b ≤ widest
second_narrow {a} {b} split = let h : a + b ≤ widest = split.narrow in omega arith

-- A call that reads one row and writes another: each side answers by F and G of the parts of the two.
module _ {a b at : ℕ} (from old p : List ℕ) (Split-from : Split a b at (length from)) (split-old : Split a b at (length old)) (front : length p ≡ length (take at old)) (r : Result (Unit {0}) Refusal) (answered : r ≡ row_answer b (eqb (length (take (length from - at) (drop at from))) b && eqb (length (rest old p split-old front)) b) tt) where
  granted : r ≡ Ok tt
  granted =
      answered ∙ row_granted b _ tt (second_narrow Split-from)
      (and_from _ _ (eq-eqb _ b (ap length (back_is from Split-from.same) ∙ length_back a b from Split-from.wide)) (eq-eqb _ b (rest_wide old p split-old front)))

  pub both_answer : r ≡ row_answer (pair_width a b) (eqb (length from) (pair_width a b) && eqb (length old) (pair_width a b)) tt
  both_answer = granted ∙ sym (pair_granted_both from old tt Split-from split-old)

  pub both_row : (F G : List ℕ → List ℕ → List ℕ) (q : List ℕ) → p ≡ F (take at old) (take at from) → q ≡ written r (G (rest old p split-old front) (take (length from - at) (drop at from))) (rest old p split-old front) → put_mid at (length (p ++ drop at old) - at) (p ++ drop at old) q ≡ written r (F (take a old) (take a from) ++ G (drop a old) (drop a from)) old
  both_row F G q first second =
      row_is old p split-old front q _ _ r granted
      (first ∙ ap (λ n. F (take n old) (take n from)) Split-from.same)
      (second ∙ both (λ u v. written r (G u v) (rest old p split-old front)) (rest_is old p split-old front) (back_is from Split-from.same))

-- the sides' verdicts on the parts of a row are the pair's on the row
side_judged : (width : ℕ) (part : List ℕ) (x verdict : Bool) → width ≤ widest → length part ≡ width → Ok x ≡ row_answer width (eqb (length part) width) verdict → x ≡ verdict
side_judged width part x verdict narrow wide answered =
    let e = answered ∙ row_granted width _ verdict narrow (eq-eqb _ width wide) in cc

pub both_judged : {a b at : ℕ} (row : List ℕ) (va vb : List ℕ → Bool) (x y : Bool) → Split a b at (length row) → Ok x ≡ row_answer a (eqb (length (take at row)) a) (va (take at row)) → Ok y ≡ row_answer b (eqb (length (take (length row - at) (drop at row))) b) (vb (take (length row - at) (drop at row))) → Ok (x && y) ≡ row_answer (pair_width a b) (eqb (length row) (pair_width a b)) (pair_verdict a va vb row)
both_judged {a} {b} {at} row va vb x y split first second =
    let front = ap (λ n. take n row) split.same in
    let back = back_is row split.same in
    let one = side_judged a _ x _ (first_narrow split) (ap length front ∙ length_front a b row split.wide) first in
    let two = side_judged b _ y _ (second_narrow split) (ap length back ∙ length_back a b row split.wide) second in
    ap Ok (both (λ u v. u && v) (one ∙ ap va front) (two ∙ ap vb back)) ∙ sym (pair_granted row (pair_verdict a va vb row) split)
