-- A pair keeps the laws that its sides keep. Assumes nothing.
use Rattle.std.specs.Prelude.{◌≡◌, ℕ, ◌+◌, ◌≤◌, Bool, ◌&&◌, List, [], ◌∷◌, ◌++◌, length, take, drop, refl}
use Rattle.std.proofs.Common.{sym, ap, ◌∙◌, subst, arith, le-leb}
use Rattle.std.proofs.lemmas.List.{length-append, length-take-le, length-drop, take_at, drop_at}
use Rattle.std.proofs.lemmas.Bool.{and_from, cond-true}
use Rattle.std.proofs.lemmas.Bool.Decides.{nat_tests}
use Rattle.records.specs.declared.step.Step.{Step}
use Rattle.resource.specs.Rows.{Extension, Lawful, run, widest}
use Rattle.resource.proofs.Joins.{and-swap}
use Rattle.pair.specs.Sides.{pair_width, pair_extension, pair_join, pair_verdict}

-- two arguments of a function at once
pub both : {X Y Z : Type 0} (f : X → Y → Z) {x u : X} {y v : Y} → x ≡ u → y ≡ v → f x y ≡ f u v
both f {u = u} {y = y} p q = ap (λ a. f a y) p ∙ ap (f u) q

-- the width of a pair that is not too wide
pub width_is : (a b : ℕ) → a + b ≤ widest → pair_width a b ≡ a + b
width_is a b narrow = cond-true _ (a + b) 4097 (le-leb (a + b) widest narrow)

module _ (a b : ℕ) (row : List ℕ) (wide : length row ≡ a + b) where
  pub length_front : length (take a row) ≡ a
  length_front = let h : a ≤ length row = omega arith in length-take-le a row h

  pub length_back : length (drop a row) ≡ b
  length_back = simp length-drop (omega arith)

length_sides : (a b : ℕ) (x y : List ℕ) → length x ≡ a → length y ≡ b → length (x ++ y) ≡ a + b
length_sides a b x y p q = length-append x y ∙ both (λ m n. m + n) p q

module _ {a b : ℕ} {sa sb : List ℕ} {ea eb : Extension} {ja jb : List ℕ → List ℕ → List ℕ} {va vb : List ℕ → Bool} (first : Lawful a sa ea ja va) (second : Lawful b sb eb jb vb) where
  abbrev E : Extension
  E = pair_extension a ea eb

  abbrev J : List ℕ → List ℕ → List ℕ
  J = pair_join a ja jb

  abbrev V : List ℕ → Bool
  V = pair_verdict a va vb

  front_join : (x y : List ℕ) → length x ≡ a + b → length y ≡ a + b → length (ja (take a x) (take a y)) ≡ a
  front_join x y p q = first.join_width _ _ (length_front a b x p) (length_front a b y q)

  back_join : (x y : List ℕ) → length x ≡ a + b → length y ≡ a + b → length (jb (drop a x) (drop a y)) ≡ b
  back_join x y p q = second.join_width _ _ (length_back a b x p) (length_back a b y q)

  front_extension : (s : Step) (m : ℕ) (x : List ℕ) → length x ≡ a + b → length (ea s m (take a x)) ≡ a
  front_extension s m x p = first.extension_width s m _ (length_front a b x p)

  back_extension : (s : Step) (m : ℕ) (x : List ℕ) → length x ≡ a + b → length (eb s m (drop a x)) ≡ b
  back_extension s m x p = second.extension_width s m _ (length_back a b x p)

  -- the sides of a join are the joins of the sides
  take-join : (x y : List ℕ) → length x ≡ a + b → length y ≡ a + b → take a (J x y) ≡ ja (take a x) (take a y)
  take-join x y p q = take_at _ _ a (front_join x y p q)

  drop-join : (x y : List ℕ) → length x ≡ a + b → length y ≡ a + b → drop a (J x y) ≡ jb (drop a x) (drop a y)
  drop-join x y p q = drop_at _ _ a (front_join x y p q)

  join_width : (x y : List ℕ) → length x ≡ a + b → length y ≡ a + b → length (J x y) ≡ a + b
  join_width x y p q = length_sides a b _ _ (front_join x y p q) (back_join x y p q)

  extension_width : (s : Step) (m : ℕ) (x : List ℕ) → length x ≡ a + b → length (E s m x) ≡ a + b
  extension_width s m x p = length_sides a b _ _ (front_extension s m x p) (back_extension s m x p)

  associative : (x y z : List ℕ) → length x ≡ a + b → length y ≡ a + b → length z ≡ a + b → J (J x y) z ≡ J x (J y z)
  associative x y z p q r =
      both (λ u v. ja u (take a z) ++ jb v (drop a z)) (take-join x y p q) (drop-join x y p q)
      ∙ both (λ u v. u ++ v)
      (first.join_associative _ _ _ (length_front a b x p) (length_front a b y q) (length_front a b z r))
      (second.join_associative _ _ _ (length_back a b x p) (length_back a b y q) (length_back a b z r))
      ∙ sym (both (λ u v. ja (take a x) u ++ jb (drop a x) v) (take-join y z q r) (drop-join y z q r))

  commutative : (x y : List ℕ) → length x ≡ a + b → length y ≡ a + b → J x y ≡ J y x
  commutative x y p q =
      both (λ u v. u ++ v)
      (first.join_commutative _ _ (length_front a b x p) (length_front a b y q))
      (second.join_commutative _ _ (length_back a b x p) (length_back a b y q))

  -- the sides of an extension are the extensions of the sides
  take_extension : (s : Step) (m : ℕ) (x : List ℕ) → length x ≡ a + b → take a (E s m x) ≡ ea s m (take a x)
  take_extension s m x p = take_at _ _ a (front_extension s m x p)

  drop_extension : (s : Step) (m : ℕ) (x : List ℕ) → length x ≡ a + b → drop a (E s m x) ≡ eb s m (drop a x)
  drop_extension s m x p = drop_at _ _ a (front_extension s m x p)

  of_join : (s : Step) (m : ℕ) (x y : List ℕ) → length x ≡ a + b → length y ≡ a + b → E s m (J x y) ≡ J (E s m x) (E s m y)
  of_join s m x y p q =
      both (λ u v. ea s m u ++ eb s m v) (take-join x y p q) (drop-join x y p q)
      ∙ both (λ u v. u ++ v)
      (first.extension_of_join s m _ _ (length_front a b x p) (length_front a b y q)
      ∙ sym (both ja (take_extension s m x p) (take_extension s m y q)))
      (second.extension_of_join s m _ _ (length_back a b x p) (length_back a b y q)
      ∙ sym (both jb (drop_extension s m x p) (drop_extension s m y q)))

  pub onto_extension : (s : Step) (m : ℕ) (from onto : List ℕ) → length from ≡ a + b → J onto (E s m from) ≡ ja (take a onto) (ea s m (take a from)) ++ jb (drop a onto) (eb s m (drop a from))
  onto_extension s m from onto p = both (λ u v. ja (take a onto) u ++ jb (drop a onto) v) (take_extension s m from p) (drop_extension s m from p)

  verdict_join : (x y : List ℕ) → length x ≡ a + b → length y ≡ a + b → V (J x y) ≡ (V x && V y)
  verdict_join x y p q =
      both (λ u v. va u && vb v) (take-join x y p q) (drop-join x y p q)
      ∙ both (λ u v. u && v)
      (first.verdict_of_join _ _ (length_front a b x p) (length_front a b y q))
      (second.verdict_of_join _ _ (length_back a b x p) (length_back a b y q))
      ∙ and-swap (va (take a x)) (va (take a y)) (vb (drop a x)) (vb (drop a y))

  pub pair_lawful : Lawful (a + b) (sa ++ sb) E J V
  pair_lawful = record {
    start_width = length_sides a b sa sb first.start_width second.start_width;
    extension_width = extension_width;
    join_width = join_width;
    join_associative = associative;
    join_commutative = commutative;
    extension_of_join = of_join;
    verdict_of_join = verdict_join;
    verdict_of_start = both (λ u v. va u && vb v) (take_at sa sb a first.start_width) (drop_at sa sb a first.start_width)
        ∙ and_from _ _ first.verdict_of_start second.verdict_of_start;
  }

  pub pair_lawful_at : pair_width a b ≡ a + b → Lawful (pair_width a b) (sa ++ sb) E J V
  pair_lawful_at e = let P : ℕ → Type 0 = λ n. Lawful n (sa ++ sb) E J V in subst P (sym e) pair_lawful

  -- the row that a route makes of two rows, one behind the other
  run_sides : (ss : List Step) (ms x y : List ℕ) → length x ≡ a → run E ss ms (x ++ y) ≡ run ea ss ms x ++ run eb ss ms y
  run_sides [] ms x y p = refl
  run_sides (s ∷ ss) [] x y p =
      both (λ u v. run E ss [] (ea s 0 u ++ eb s 0 v)) (take_at x y a p) (drop_at x y a p) ∙ run_sides ss [] (ea s 0 x) (eb s 0 y) (first.extension_width s 0 x p)
  run_sides (s ∷ ss) (m ∷ ms) x y p =
      both (λ u v. run E ss ms (ea s m u ++ eb s m v)) (take_at x y a p) (drop_at x y a p) ∙ run_sides ss ms (ea s m x) (eb s m y) (first.extension_width s m x p)

  run_width : (ss : List Step) (ms x : List ℕ) → length x ≡ a → length (run ea ss ms x) ≡ a
  run_width [] ms x p = p
  run_width (s ∷ ss) [] x p = run_width ss [] (ea s 0 x) (first.extension_width s 0 x p)
  run_width (s ∷ ss) (m ∷ ms) x p = run_width ss ms (ea s m x) (first.extension_width s m x p)

  pub pair_keeps : (ss : List Step) (ms : List ℕ) → V (run E ss ms (sa ++ sb)) ≡ (va (run ea ss ms sa) && vb (run eb ss ms sb))
  pair_keeps ss ms =
      let wide = run_width ss ms sa first.start_width in
      ap V (run_sides ss ms sa sb first.start_width)
      ∙ both (λ u v. va u && vb v) (take_at (run ea ss ms sa) (run eb ss ms sb) a wide) (drop_at (run ea ss ms sa) (run eb ss ms sb) a wide)

-- where a pair is not too wide, neither is a side
pub sum_narrow : (a b : ℕ) → pair_width a b ≤ widest → a + b ≤ widest
sum_narrow a b narrow = grind (arith, nat_tests)

pub first_side : (a b : ℕ) → pair_width a b ≤ widest → a ≤ widest
first_side a b narrow = let sum : a + b ≤ widest = sum_narrow a b narrow in omega arith

pub second_side : (a b : ℕ) → pair_width a b ≤ widest → b ≤ widest
second_side a b narrow = let sum : a + b ≤ widest = sum_narrow a b narrow in omega arith
