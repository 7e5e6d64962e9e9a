-- The first day that is refused: by the days of the outermost layer, and step by step within one layer. Assumes nothing.
use Rattle.std.proofs.Common.{◌≡◌, ℕ, zero, suc, pred, ◌-◌, ◌<◌, Bool, true, false, cond, not, ◌&&◌, List, [], ◌∷◌, ◌++◌, map, length, get_or, take, drop, set, is_some, Some, None, sym, refl, ap, ◌∙◌, ap₂, ⊎_elim, sub-one, arith}
use lib.Bits.{bit_or}
use Rattle.std.specs.List.{flat_map}
use Rattle.std.proofs.lemmas.List.{take_rest}
use Rattle.std.proofs.lemmas.Bool.{cases_Bool, not-true, not-false, cond-true, cond-false, and_parts, and_cases, both_ways}
use Rattle.records.specs.declared.step.Step.{Step}
use Rattle.resource.specs.Marks.{union}
use Rattle.resource.specs.Rows.{Extension, run}
use Rattle.resource.specs.Scenarios.{Budget, Accepts, scenarios, every, first_failing, survives, first_day}
use Rattle.layered.specs.Days.{days, accepted, chosen, Chose}
use Rattle.layered.proofs.Runs.{every_append, every_map}
use Rattle.layered.proofs.Unions.{Each, scenarios_by_days, length_union, length-days}

module _ {X : Type 0} (p : X → Bool) where
  pub none_failing : (xs : List X) → every p xs ≡ true → first_failing p xs ≡ None
  none_failing [] all = refl
  none_failing (x ∷ xs) all = let b = and_parts (p x) (every p xs) all in cond-true (p x) _ _ b.0 ∙ none_failing xs b.1

  past : (xs ys : List X) → every p xs ≡ true → first_failing p (xs ++ ys) ≡ first_failing p ys
  past [] ys all = refl
  past (x ∷ xs) ys all = let b = and_parts (p x) (every p xs) all in cond-true (p x) _ _ b.0 ∙ past xs ys b.1

  within : (xs ys : List X) → every p xs ≡ false → first_failing p (xs ++ ys) ≡ first_failing p xs
  within [] ys some = absurd (both_ways true some refl)
  within (x ∷ xs) ys some =
      ⊎_elim
      (λ t. cond-true (p x) _ _ t ∙ within xs ys (rw t at some) ∙ sym (cond-true (p x) _ _ t))
      (λ f. cond-false (p x) _ _ f ∙ sym (cond-false (p x) _ _ f))
      (cases_Bool (p x))

  pub is_some_failing : (xs : List X) → is_some (first_failing p xs) ≡ not (every p xs)
  is_some_failing [] = refl
  is_some_failing (x ∷ xs) =
      elim (p x) as (λ b. is_some (cond b (first_failing p xs) (Some x)) ≡ not (b && every p xs)) [ true ↦ is_some_failing xs | false ↦ refl ]

  pub failing_fails : (xs : List X) (y : X) → first_failing p xs ≡ Some y → p y ≡ false
  failing_fails [] y e = absurd (let z : ◌≡◌ {A = ℕ} 0 1 = cc in omega arith)
  failing_fails (x ∷ xs) y e =
      ⊎_elim
      (λ t. failing_fails xs y (sym (cond-true (p x) _ _ t) ∙ e))
      (λ f. let s : Some x ≡ Some y = sym (cond-false (p x) (first_failing p xs) (Some x) f) ∙ e in let same : x ≡ y = cc in cc)
      (cases_Bool (p x))

pub failing_each : {X : Type 0} (P : X → Type 0) (p q : X → Bool) → ((x : X) → P x → p x ≡ q x) → (xs : List X) → Each P xs → first_failing p xs ≡ first_failing q xs
failing_each P p q same [] each = refl
failing_each P p q same (x ∷ xs) each = let a = same x each.0 in let b = failing_each P p q same xs each.1 in cc

failing_map : {X Y : Type 0} (p : Y → Bool) (f : X → Y) (xs : List X) (x : X) → first_failing (λ y. p (f y)) xs ≡ Some x → first_failing p (map f xs) ≡ Some (f x)
failing_map p f [] x e = absurd (let z : ◌≡◌ {A = ℕ} 0 1 = cc in omega arith)
failing_map p f (y ∷ ys) x e =
    ⊎_elim
    (λ t. cond-true (p (f y)) _ _ t ∙ failing_map p f ys x (sym (cond-true (p (f y)) _ _ t) ∙ e))
    (λ n. cond-false (p (f y)) _ _ n ∙ (let s : Some y ≡ Some x = sym (cond-false (p (f y)) (first_failing (λ z. p (f z)) ys) (Some y) n) ∙ e in let same : y ≡ x = cc in cc))
    (cases_Bool (p (f y)))

-- a fact of what each is made into holds of the first that fails
failing_has : {X Y : Type 0} (P : Y → Type 0) (p : Y → Bool) (f : X → Y) → ((x : X) → P (f x)) → (xs : List X) (y : Y) → first_failing p (map f xs) ≡ Some y → P y
failing_has P p f has [] y e = absurd (let z : ◌≡◌ {A = ℕ} 0 1 = cc in omega arith)
failing_has P p f has (x ∷ xs) y e =
    ⊎_elim
    (λ t. failing_has P p f has xs y (sym (cond-true (p (f x)) _ _ t) ∙ e))
    (λ n. let s : Some (f x) ≡ Some y = sym (cond-false (p (f x)) (first_failing p (map f xs)) (Some (f x)) n) ∙ e in let same : f x ≡ y = cc in rw (← same) (has x))
    (cases_Bool (p (f x)))

failing_joined : {X Y : Type 0} (p : Y → Bool) (f : X → List Y) (xs : List X) (x : X) → first_failing (λ y. every p (f y)) xs ≡ Some x → first_failing p (flat_map f xs) ≡ first_failing p (f x)
failing_joined p f [] x e = absurd (let z : ◌≡◌ {A = ℕ} 0 1 = cc in omega arith)
failing_joined p f (y ∷ ys) x e =
    ⊎_elim
    (λ t. past p (f y) (flat_map f ys) t ∙ failing_joined p f ys x (sym (cond-true (every p (f y)) _ _ t) ∙ e))
    (λ n. within p (f y) (flat_map f ys) n ∙ (let s : Some y ≡ Some x = sym (cond-false (every p (f y)) (first_failing (λ z. every p (f z)) ys) (Some y) n) ∙ e in let same : y ≡ x = cc in cc))
    (cases_Bool (every p (f y)))

-- the first day of a pile is that of the pile below on the first refused day of the outermost layer
module _ (accepts : Accepts) (b : Budget) (bs : List Budget) (ss : List Step) (ms : List ℕ) (same : length ms ≡ length ss) where
  pub first_day_by_days : (d : List ℕ) → first_failing (survives accepts bs ss) (days b.class b.most ms) ≡ Some d → first_day accepts (b ∷ bs) ss ms ≡ first_day accepts bs ss d
  first_day_by_days d e =
      ap (first_failing (accepts ss)) (scenarios_by_days b bs ms (length ss) same)
      ∙ failing_joined (accepts ss) (λ d. map (union d) (scenarios bs (length ss))) (days b.class b.most ms) d
      (failing_each (λ d. length d ≡ length ms) _ _ (λ d _. every_map (accepts ss) (union d) (scenarios bs (length ss))) (days b.class b.most ms) (length-days b.class b.most ms) ∙ e)

-- there is a first day exactly where the route does not survive
pub is_some-first_day : (accepts : Accepts) (bs : List Budget) (ss : List Step) (ms : List ℕ) → is_some (first_day accepts bs ss ms) ≡ not (survives accepts bs ss ms)
is_some-first_day accepts bs ss ms =
    is_some_failing (accepts ss) (map (union ms) (scenarios bs (length ss))) ∙ ap not (every_map (accepts ss) (union ms) (scenarios bs (length ss)))

pub length-first_day : (accepts : Accepts) (bs : List Budget) (ss : List Step) (ms day : List ℕ) → first_day accepts bs ss ms ≡ Some day → length day ≡ length ms
length-first_day accepts bs ss ms day = failing_has (λ d. length d ≡ length ms) (accepts ss) (union ms) (length_union ms) (scenarios bs (length ss)) day

-- within one layer, step by step
module _ (ext : Extension) (verdict : List ℕ → Bool) (class : ℕ) where
  -- where every day without the class on the first step is accepted and yet one is refused, the step takes the class
  pub must_mark : (s : Step) (ss : List Step) (m : ℕ) (ms x : List ℕ) (g : ℕ) → accepted ext verdict class (s ∷ ss) (m ∷ ms) x g ≡ false → accepted ext verdict class ss ms (ext s m x) g ≡ true
      → (0 < g) × (accepted ext verdict class ss ms (ext s (bit_or m class) x) (pred g) ≡ false)
  must_mark s ss m ms x zero refused free =
      absurd (both_ways _ refused (every_map (λ d. verdict (run ext (s ∷ ss) d x)) (λ d. m ∷ d) (days class 0 ms) ∙ free))
  must_mark s ss m ms x (suc g) refused free = (
    omega arith,
    (let p : List ℕ → Bool = λ d. verdict (run ext (s ∷ ss) d x) in
        let parts = every_append p (map (λ d. m ∷ d) (days class (suc g) ms)) (map (λ d. bit_or m class ∷ d) (days class g ms)) in
        let plain = every_map p (λ d. m ∷ d) (days class (suc g) ms) ∙ free in
        let marked = every_map p (λ d. bit_or m class ∷ d) (days class g ms) in
        sym marked ∙ ap (λ b. b && every p (map (λ d. bit_or m class ∷ d) (days class g ms))) (sym plain) ∙ sym parts ∙ refused),
  )

  module _ (s : Step) (ss : List Step) (m : ℕ) (ms x : List ℕ) where
    abbrev p : List ℕ → Bool
    p d = verdict (run ext (s ∷ ss) d x)

    first_plain : (g : ℕ) → accepted ext verdict class ss ms (ext s m x) g ≡ false → first_failing p (days class g (m ∷ ms)) ≡ first_failing p (map (λ d. m ∷ d) (days class g ms))
    first_plain zero refused = refl
    first_plain (suc g) refused = within p (map (λ d. m ∷ d) (days class (suc g) ms)) _ (every_map p (λ d. m ∷ d) (days class (suc g) ms) ∙ refused)

    first_marked : (g : ℕ) → 0 < g → accepted ext verdict class ss ms (ext s m x) g ≡ true → first_failing p (days class g (m ∷ ms)) ≡ first_failing p (map (λ d. bit_or m class ∷ d) (days class (pred g) ms))
    first_marked zero positive free = absurd (omega arith)
    first_marked (suc g) positive free = past p (map (λ d. m ∷ d) (days class (suc g) ms)) _ (every_map p (λ d. m ∷ d) (days class (suc g) ms) ∙ free)

  pub first_chosen : (ss : List Step) (ms x : List ℕ) (g : ℕ) → length ms ≡ length ss → accepted ext verdict class ss ms x g ≡ false
      → first_failing (λ d. verdict (run ext ss d x)) (days class g ms) ≡ Some (chosen ext verdict class ss ms x g)
  first_chosen [] [] x g same refused = ⊎_elim (λ f. cond-false (verdict x) _ _ f) (λ f. absurd (both_ways true f refl)) (and_cases (verdict x) true refused)
  first_chosen [] (m ∷ ms) x g same refused = absurd (omega arith)
  first_chosen (s ∷ ss) [] x g same refused = absurd (omega arith)
  first_chosen (s ∷ ss) (m ∷ ms) x g same refused =
      ⊎_elim
      (λ free. let marked = must_mark s ss m ms x g refused free in
      first_marked s ss m ms x g marked.0 free
      ∙ failing_map (λ d. verdict (run ext (s ∷ ss) d x)) (λ d. bit_or m class ∷ d) (days class (pred g) ms) _ (first_chosen ss ms (ext s (bit_or m class) x) (pred g) (omega arith) marked.1)
      ∙ ap Some (sym (cond-true (accepted ext verdict class ss ms (ext s m x) g) _ _ free)))
      (λ plain.
      first_plain s ss m ms x g plain
      ∙ failing_map (λ d. verdict (run ext (s ∷ ss) d x)) (λ d. m ∷ d) (days class g ms) _ (first_chosen ss ms (ext s m x) g (omega arith) plain)
      ∙ ap Some (sym (cond-false (accepted ext verdict class ss ms (ext s m x) g) _ _ plain)))
      (cases_Bool (accepted ext verdict class ss ms (ext s m x) g))

  -- what the test of the steps after the first tells
  module _ (ss : List Step) (ms x : List ℕ) (g : ℕ) (t : Bool) (is : t ≡ not (accepted ext verdict class (take (length ss - 1) (drop 1 ss)) (take (length ms - 1) (drop 1 ms)) x g)) where
    tested : t ≡ not (accepted ext verdict class (drop 1 ss) (drop 1 ms) x g)
    tested = is ∙ ap₂ (λ ts ns. not (accepted ext verdict class ts ns x g)) (take_rest ss 1) (take_rest ms 1)

    pub rest_refused : t ≡ true → accepted ext verdict class (drop 1 ss) (drop 1 ms) x g ≡ false
    rest_refused e = not-true _ (sym tested ∙ e)

    pub rest_accepted : t ≡ false → accepted ext verdict class (drop 1 ss) (drop 1 ms) x g ≡ true
    rest_accepted e = not-false _ (sym tested ∙ e)

  -- one step of the choice
  pub chose_plain : (ss : List Step) (ms x : List ℕ) (g : ℕ) (d : Step) (x' : List ℕ) → 0 < length ss → length ms ≡ length ss → x' ≡ ext (get_or ss 0 d) (get_or ms 0 0) x
      → accepted ext verdict class (drop 1 ss) (drop 1 ms) x' g ≡ false → Chose ext verdict class ss ms x g ms x' g
  chose_plain [] ms x g d x' some same is refused = absurd (omega arith)
  chose_plain (s ∷ ss) [] x g d x' some same is refused = absurd (omega arith)
  chose_plain (s ∷ ss) (m ∷ ms) x g d x' some same is refused =
      record {
        within = omega arith;
        rest = refl;
        refused = refused;
        day = cond-false _ _ _ (ap (λ z. accepted ext verdict class ss ms z g) (sym is) ∙ refused) ∙ ap (λ z. m ∷ chosen ext verdict class ss ms z g) (sym is);
      }

  module _ (ss : List Step) (ms x : List ℕ) (g : ℕ) (d : Step) (y : List ℕ) where
    -- every day that leaves the first step unmarked is accepted, and yet one is refused
    pub record MustMark : Type 0 where
      pub some : 0 < length ss
      pub same : length ms ≡ length ss
      pub refused : accepted ext verdict class ss ms x g ≡ false
      pub unmarked : y ≡ ext (get_or ss 0 d) (get_or ms 0 0) x
      pub free : accepted ext verdict class (drop 1 ss) (drop 1 ms) y g ≡ true

  marked_first : (ss : List Step) (ms x : List ℕ) (g : ℕ) (d : Step) (y : List ℕ) → MustMark ss ms x g d y
      → (0 < g) × ((x' : List ℕ) → x' ≡ ext (get_or ss 0 d) (get_or (set ms 0 (bit_or (get_or ms 0 0) class)) 0 0) x → Chose ext verdict class ss ms x g (set ms 0 (bit_or (get_or ms 0 0) class)) x' (g - 1))
  marked_first [] ms x g d y must = absurd (omega (arith, must.some))
  marked_first (s ∷ ss) [] x g d y must = absurd (omega (arith, must.same))
  marked_first (s ∷ ss) (m ∷ ms) x g d y must =
      let free-x : accepted ext verdict class ss ms (ext s m x) g ≡ true = ap (λ z. accepted ext verdict class ss ms z g) (sym must.unmarked) ∙ must.free in
      let marked = must_mark s ss m ms x g must.refused free-x in (
        marked.0,
        λ x' is. record {
          within = omega arith;
          rest = refl;
          refused = ap₂ (λ z k. accepted ext verdict class ss ms z k) is (sub-one g) ∙ marked.1;
          day = cond-true _ _ _ free-x ∙ ap₂ (λ z k. bit_or m class ∷ chosen ext verdict class ss ms z k) (sym is) (sym (sub-one g));
        },
      )

  pub some_left : (ss : List Step) (ms x : List ℕ) (g : ℕ) (d : Step) (y : List ℕ) → MustMark ss ms x g d y → 0 < g
  some_left ss ms x g d y must = (marked_first ss ms x g d y must).0

  pub chose_marked : (ss : List Step) (ms x : List ℕ) (g : ℕ) (d : Step) (y : List ℕ) → MustMark ss ms x g d y
      → (x' : List ℕ) → x' ≡ ext (get_or ss 0 d) (get_or (set ms 0 (bit_or (get_or ms 0 0) class)) 0 0) x → Chose ext verdict class ss ms x g (set ms 0 (bit_or (get_or ms 0 0) class)) x' (g - 1)
  chose_marked ss ms x g d y must = (marked_first ss ms x g d y must).1
