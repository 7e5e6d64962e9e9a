-- The laws of a resource that joins rows by the greater word at each place and judges them by the ceiling. Assumes nothing.
use Rattle.std.proofs.Common.{◌≡◌, ℕ, zero, suc, ◌≤◌, max, Bool, true, false, ◌&&◌, leb, List, [], ◌∷◌, length, get_or, sym, refl, ap, ◌∙◌, arith, leb-true}
use Rattle.std.proofs.lemmas.List.{length-replicate}
use Rattle.std.proofs.lemmas.Bool.{and_parts}
use Rattle.std.proofs.lemmas.Bool.Decides.{nat_tests}
use Rattle.records.specs.declared.step.Step.{Step}
use Rattle.resource.specs.Rows.{Lawful}
use Rattle.resource.specs.Words.{ceiling, broken_word, broken, greater, sound, unless_broken, recursion}

pub greater_associative : (xs ys zs : List ℕ) → greater (greater xs ys) zs ≡ greater xs (greater ys zs)
greater_associative [] ys zs = refl
greater_associative (x ∷ xs) [] zs = refl
greater_associative (x ∷ xs) (y ∷ ys) [] = refl
greater_associative (x ∷ xs) (y ∷ ys) (z ∷ zs) =
    let e : max (max x y) z ≡ max x (max y z) = omega arith in
    ap (λ w. w ∷ greater (greater xs ys) zs) e ∙ ap (λ ws. max x (max y z) ∷ ws) (greater_associative xs ys zs)

pub greater_commutative : (xs ys : List ℕ) → greater xs ys ≡ greater ys xs
greater_commutative [] [] = refl
greater_commutative [] (y ∷ ys) = refl
greater_commutative (x ∷ xs) [] = refl
greater_commutative (x ∷ xs) (y ∷ ys) =
    let e : max x y ≡ max y x = omega arith in
    ap (λ w. w ∷ greater xs ys) e ∙ ap (λ ws. max y x ∷ ws) (greater_commutative xs ys)

pub length-greater : (xs ys : List ℕ) → length xs ≡ length ys → length (greater xs ys) ≡ length xs
length-greater [] ys e = refl
length-greater (x ∷ xs) [] e = sym e
length-greater (x ∷ xs) (y ∷ ys) e = let same : length xs ≡ length ys = omega arith in ap suc (length-greater xs ys same)

pub get_d_greater : (xs ys : List ℕ) (i : ℕ) → length xs ≡ length ys → get_or (greater xs ys) i 0 ≡ max (get_or xs i 0) (get_or ys i 0)
get_d_greater [] [] i e = refl
get_d_greater [] (y ∷ ys) i e = absurd (omega arith)
get_d_greater (x ∷ xs) [] i e = absurd (omega arith)
get_d_greater (x ∷ xs) (y ∷ ys) zero e = refl
get_d_greater (x ∷ xs) (y ∷ ys) (suc i) e = let same : length xs ≡ length ys = omega arith in get_d_greater xs ys i same

pub leb_max : (x y c : ℕ) → leb (max x y) c ≡ (leb x c && leb y c)
leb_max x y c = grind (arith, nat_tests)

pub and-swap : (a b c d : Bool) → ((a && b) && (c && d)) ≡ ((a && c) && (b && d))
and-swap true true c d = refl
and-swap true false true d = refl
and-swap true false false d = refl
and-swap false b c d = refl

-- two sums are within their limits at the greater of two words where they are so at both
pub within_both : (x y c u v d : ℕ) → (leb (max x y) c && leb (max u v) d) ≡ ((leb x c && leb u d) && (leb y c && leb v d))
within_both x y c u v d =
    ap (λ b. b && leb (max u v) d) (leb_max x y c) ∙ ap (λ b. (leb x c && leb y c) && b) (leb_max u v d)
    ∙ and-swap (leb x c) (leb y c) (leb u d) (leb v d)

pub sound-greater : (xs ys : List ℕ) → length xs ≡ length ys → sound (greater xs ys) ≡ (sound xs && sound ys)
sound-greater [] [] e = refl
sound-greater [] (y ∷ ys) e = absurd (omega arith)
sound-greater (x ∷ xs) [] e = absurd (omega arith)
sound-greater (x ∷ xs) (y ∷ ys) e =
    let same : length xs ≡ length ys = omega arith in
    ap (λ b. b && sound (greater xs ys)) (leb_max x y ceiling)
    ∙ ap (λ b. (leb x ceiling && leb y ceiling) && b) (sound-greater xs ys same)
    ∙ and-swap (leb x ceiling) (leb y ceiling) (sound xs) (sound ys)

-- a broken row stays broken in every join with a row of its width
pub greater-broken : (xs : List ℕ) → sound xs ≡ true → greater xs (broken (length xs)) ≡ broken (length xs)
greater-broken [] h = refl
greater-broken (x ∷ xs) h =
    let parts = and_parts (leb x ceiling) (sound xs) h in
    let low : x ≤ 1000000000 = leb-true x ceiling parts.0 in
    let e : max x 4294967295 ≡ 4294967295 = omega arith in
    ap (λ w. w ∷ greater xs (broken (length xs))) e ∙ ap (λ ws. broken_word ∷ ws) (greater-broken xs parts.1)

broken-broken : (n : ℕ) → greater (broken n) (broken n) ≡ broken n
broken-broken zero = refl
broken-broken (suc n) = ap (λ ws. broken_word ∷ ws) (broken-broken n)

unless_broken-join : (p q : Bool) (xs ys : List ℕ) → length xs ≡ length ys → (p ≡ true → sound xs ≡ true) → (q ≡ true → sound ys ≡ true) → unless_broken (p && q) (greater xs ys) ≡ greater (unless_broken p xs) (unless_broken q ys)
unless_broken-join true true xs ys e f g = refl
unless_broken-join true false xs ys e f g =
    ap broken (length-greater xs ys e) ∙ sym (greater-broken xs (f refl)) ∙ ap (λ n. greater xs (broken n)) e
unless_broken-join false true xs ys e f g =
    ap broken (length-greater xs ys e ∙ e) ∙ sym (greater-broken ys (g refl))
    ∙ greater_commutative ys (broken (length ys)) ∙ ap (λ n. greater (broken n) ys) (sym e)
unless_broken-join false false xs ys e f g =
    ap broken (length-greater xs ys e) ∙ sym (broken-broken (length xs)) ∙ ap (λ n. greater (broken (length xs)) (broken n)) e

length-unless_broken : (p : Bool) (xs : List ℕ) → length (unless_broken p xs) ≡ length xs
length-unless_broken true xs = refl
length-unless_broken false xs = length-replicate (length xs) broken_word

-- what is left to show of a recursion over rows of a width, so that it keeps the laws
pub record Joinable (width : ℕ) (admits : Step → ℕ → List ℕ → Bool) (next : Step → ℕ → List ℕ → List ℕ) : Type 0 where
  pub next_width : (s : Step) (m : ℕ) (x : List ℕ) → length (next s m x) ≡ width
  pub next_sound : (s : Step) (m : ℕ) (x : List ℕ) → admits s m x ≡ true → sound (next s m x) ≡ true
  pub admits_join : (s : Step) (m : ℕ) (x y : List ℕ) → length x ≡ length y → admits s m (greater x y) ≡ (admits s m x && admits s m y)
  pub next_join : (s : Step) (m : ℕ) (x y : List ℕ) → length x ≡ length y → next s m (greater x y) ≡ greater (next s m x) (next s m y)

module _ {width : ℕ} {admits : Step → ℕ → List ℕ → Bool} {next : Step → ℕ → List ℕ → List ℕ} (joinable : Joinable width admits next) where
  recursion-join : (s : Step) (m : ℕ) (x y : List ℕ) → length x ≡ length y → recursion admits next s m (greater x y) ≡ greater (recursion admits next s m x) (recursion admits next s m y)
  recursion-join s m x y e =
      let kept : (sound (greater x y) && admits s m (greater x y)) ≡ ((sound x && admits s m x) && (sound y && admits s m y)) =
      ap (λ b. b && admits s m (greater x y)) (sound-greater x y e) ∙ ap (λ b. (sound x && sound y) && b) (joinable.admits_join s m x y e)
      ∙ and-swap (sound x) (sound y) (admits s m x) (admits s m y) in
      ap (λ b. unless_broken b (next s m (greater x y))) kept
      ∙ ap (unless_broken ((sound x && admits s m x) && (sound y && admits s m y))) (joinable.next_join s m x y e)
      ∙ unless_broken-join (sound x && admits s m x) (sound y && admits s m y) (next s m x) (next s m y)
      (joinable.next_width s m x ∙ sym (joinable.next_width s m y))
      (λ h. joinable.next_sound s m x (and_parts (sound x) (admits s m x) h).1)
      (λ h. joinable.next_sound s m y (and_parts (sound y) (admits s m y) h).1)

  pub recursion_lawful : (start : List ℕ) → length start ≡ width → sound start ≡ true → Lawful width start (recursion admits next) greater sound
  recursion_lawful start wide below = record {
    start_width = wide;
    extension_width = λ s m x _. length-unless_broken (sound x && admits s m x) (next s m x) ∙ joinable.next_width s m x;
    join_width = λ x y ex ey. length-greater x y (ex ∙ sym ey) ∙ ex;
    join_associative = λ x y z _ _ _. greater_associative x y z;
    join_commutative = λ x y _ _. greater_commutative x y;
    extension_of_join = λ s m x y ex ey. recursion-join s m x y (ex ∙ sym ey);
    verdict_of_join = λ x y ex ey. sound-greater x y (ex ∙ sym ey);
    verdict_of_start = below;
  }
