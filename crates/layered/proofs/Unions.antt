-- Marks taken together, and the scenarios of a pile by the days of its outermost layer. Assumes nothing.
use Rattle.std.proofs.Common.{◌≡◌, ℕ, zero, suc, ◌/◌, ◌%◌, ◌<◌, Bool, true, false, cond, ◌&&◌, List, [], ◌∷◌, ◌++◌, map, length, sym, refl, ap, ◌∙◌, ap₂, mod-lt, div-add-mod', arith}
use lib.Arith.{bin_ind}
use lib.Bits.{bit_or, or_shr, or_mod, or_zero_r}
use lib.ListN.{length-map}
use Rattle.std.specs.List.{flat_map}
use Rattle.std.proofs.lemmas.List.{map-append}
use Rattle.records.specs.declared.step.Step.{Step}
use Rattle.resource.specs.Marks.{union}
use Rattle.resource.specs.Scenarios.{Budget, Accepts, sets, marking, scenarios, every, survives}
use Rattle.layered.specs.Days.{days}
use Rattle.layered.proofs.Runs.{every_append, every_map}

by_digits : (a b : ℕ) → a / 2 ≡ b / 2 → a % 2 ≡ b % 2 → a ≡ b
by_digits a b hi lo = omega (arith, div-add-mod' a 2, div-add-mod' b 2)

digit_assoc : (x y z : ℕ) → x < 2 → y < 2 → z < 2 → bit_or (bit_or x y) z ≡ bit_or x (bit_or y z)
digit_assoc zero y z hx hy hz = refl
digit_assoc (suc zero) zero z hx hy hz = refl
digit_assoc (suc zero) (suc zero) zero hx hy hz = refl
digit_assoc (suc zero) (suc zero) (suc zero) hx hy hz = refl
digit_assoc (suc zero) (suc zero) (suc (suc z)) hx hy hz = absurd (omega arith)
digit_assoc (suc zero) (suc (suc y)) z hx hy hz = absurd (omega arith)
digit_assoc (suc (suc x)) y z hx hy hz = absurd (omega arith)

pub or_assoc : (a b c : ℕ) → bit_or (bit_or a b) c ≡ bit_or a (bit_or b c)
or_assoc =
    bin_ind (λ (n : ℕ). (b c : ℕ) → bit_or (bit_or n b) c ≡ bit_or n (bit_or b c)) (λ b c. refl)
    (λ n ih b c. by_digits _ _
    (or_shr (bit_or n b) c 1 ∙ ap (λ (x : ℕ). bit_or x (c / 2)) (or_shr n b 1) ∙ ih (b / 2) (c / 2)
    ∙ sym (or_shr n (bit_or b c) 1 ∙ ap (bit_or (n / 2)) (or_shr b c 1)))
    (or_mod (bit_or n b) c 1 ∙ ap (λ (x : ℕ). bit_or x (c % 2)) (or_mod n b 1)
    ∙ digit_assoc (n % 2) (b % 2) (c % 2) (mod-lt n (omega arith)) (mod-lt b (omega arith)) (mod-lt c (omega arith))
    ∙ sym (or_mod n (bit_or b c) 1 ∙ ap (bit_or (n % 2)) (or_mod b c 1))))

pub union_assoc : (ms ks ns : List ℕ) → length ms ≡ length ks → union (union ms ks) ns ≡ union ms (union ks ns)
union_assoc [] ks ns same = refl
union_assoc (m ∷ ms) [] ns same = absurd (omega arith)
union_assoc (m ∷ ms) (a ∷ ks) [] same = refl
union_assoc (m ∷ ms) (a ∷ ks) (n ∷ ns) same = ap₂ ◌∷◌ (or_assoc m a n) (union_assoc ms ks ns (omega arith))

pub length_union : (ms ns : List ℕ) → length (union ms ns) ≡ length ms
length_union [] ns = refl
length_union (m ∷ ms) [] = refl
length_union (m ∷ ms) (n ∷ ns) = ap suc (length_union ms ns)

-- a fact of each of a list
abbrev pub Each : {X : Type 0} → (X → Type 0) → List X → Type 0
Each P [] = Unit {0}
Each P (x ∷ xs) = P x × Each P xs

each_map : {X Y : Type 0} (P : X → Type 0) (Q : Y → Type 0) (f : X → Y) → ((x : X) → P x → Q (f x)) → (xs : List X) → Each P xs → Each Q (map f xs)
each_map P Q f so [] each = tt
each_map P Q f so (x ∷ xs) each = (so x each.0, each_map P Q f so xs each.1)

each_append : {X : Type 0} (P : X → Type 0) (xs ys : List X) → Each P xs → Each P ys → Each P (xs ++ ys)
each_append P [] ys left right = right
each_append P (x ∷ xs) ys left right = (left.0, each_append P xs ys left.1 right)

-- each set has a test for each step
abbrev Long : ℕ → List Bool → Type 0
Long n s = length s ≡ n

sets_long : (n g : ℕ) → Each (Long n) (sets n g)
sets_long zero g = (refl, tt)
sets_long (suc n) zero = each_map (Long n) (Long (suc n)) (λ s. false ∷ s) (λ s e. ap suc e) (sets n 0) (sets_long n 0)
sets_long (suc n) (suc g) =
    each_append (Long (suc n)) _ _
    (each_map (Long n) (Long (suc n)) (λ s. false ∷ s) (λ s e. ap suc e) (sets n (suc g)) (sets_long n (suc g)))
    (each_map (Long n) (Long (suc n)) (λ s. true ∷ s) (λ s e. ap suc e) (sets n g) (sets_long n g))

map_along : {X Y Z V : Type 0} (f : Y → Z) (g : X → Y) (h : V → Z) (k : X → V) → ((x : X) → f (g x) ≡ h (k x)) → (xs : List X) → map f (map g xs) ≡ map h (map k xs)
map_along f g h k same [] = refl
map_along f g h k same (x ∷ xs) = ap₂ ◌∷◌ (same x) (map_along f g h k same xs)

-- the days are the marks given with the class added on each set
pub days_of_sets : (class g : ℕ) (ms : List ℕ) → map (λ s. union ms (marking class s)) (sets (length ms) g) ≡ days class g ms
days_of_sets class g [] = refl
days_of_sets class zero (m ∷ ms) =
    map_along (λ s. union (m ∷ ms) (marking class s)) (λ s. false ∷ s) (λ d. m ∷ d) (λ s. union ms (marking class s)) (λ s. ap (λ b. b ∷ union ms (marking class s)) (or_zero_r m)) (sets (length ms) 0)
    ∙ ap (map (λ d. m ∷ d)) (days_of_sets class 0 ms)
days_of_sets class (suc g) (m ∷ ms) =
    map-append (λ s. union (m ∷ ms) (marking class s)) (map (λ s. false ∷ s) (sets (length ms) (suc g))) (map (λ s. true ∷ s) (sets (length ms) g))
    ∙ ap₂ ◌++◌
    (map_along (λ s. union (m ∷ ms) (marking class s)) (λ s. false ∷ s) (λ d. m ∷ d) (λ s. union ms (marking class s)) (λ s. ap (λ b. b ∷ union ms (marking class s)) (or_zero_r m)) (sets (length ms) (suc g))
    ∙ ap (map (λ d. m ∷ d)) (days_of_sets class (suc g) ms))
    (map_along (λ s. union (m ∷ ms) (marking class s)) (λ s. true ∷ s) (λ d. bit_or m class ∷ d) (λ s. union ms (marking class s)) (λ s. refl) (sets (length ms) g)
    ∙ ap (map (λ d. bit_or m class ∷ d)) (days_of_sets class g ms))

-- each of the days has a byte for each step
pub length-days : (class g : ℕ) (ms : List ℕ) → Each (λ d. length d ≡ length ms) (days class g ms)
length-days class g [] = (refl, tt)
length-days class zero (m ∷ ms) = each_map (λ d. length d ≡ length ms) (λ d. length d ≡ suc (length ms)) (λ d. m ∷ d) (λ d e. ap suc e) (days class 0 ms) (length-days class 0 ms)
length-days class (suc g) (m ∷ ms) =
    each_append (λ d. length d ≡ suc (length ms)) _ _
    (each_map (λ d. length d ≡ length ms) (λ d. length d ≡ suc (length ms)) (λ d. m ∷ d) (λ d e. ap suc e) (days class (suc g) ms) (length-days class (suc g) ms))
    (each_map (λ d. length d ≡ length ms) (λ d. length d ≡ suc (length ms)) (λ d. bit_or m class ∷ d) (λ d e. ap suc e) (days class g ms) (length-days class g ms))

map_unions : (ms ks : List ℕ) → length ms ≡ length ks → (xs : List (List ℕ)) → map (union ms) (map (union ks) xs) ≡ map (union (union ms ks)) xs
map_unions ms ks same [] = refl
map_unions ms ks same (x ∷ xs) = ap₂ ◌∷◌ (sym (union_assoc ms ks x same)) (map_unions ms ks same xs)

-- the scenarios below, each with the marks of each set, are those below with the marks of each day
unions_joined : (class : ℕ) (ms : List ℕ) (below : List (List ℕ)) (xs : List (List Bool)) → Each (Long (length ms)) xs
    → map (union ms) (flat_map (λ s. map (union (marking class s)) below) xs) ≡ flat_map (λ d. map (union d) below) (map (λ s. union ms (marking class s)) xs)
unions_joined class ms below [] each = refl
unions_joined class ms below (s ∷ xs) each =
    map-append (union ms) (map (union (marking class s)) below) _
    ∙ ap₂ ◌++◌ (map_unions ms (marking class s) (sym (length-map s (λ b. cond b class 0) ∙ each.0)) below) (unions_joined class ms below xs each.1)

pub scenarios_by_days : (b : Budget) (bs : List Budget) (ms : List ℕ) (n : ℕ) → length ms ≡ n
    → map (union ms) (scenarios (b ∷ bs) n) ≡ flat_map (λ d. map (union d) (scenarios bs n)) (days b.class b.most ms)
scenarios_by_days b bs ms n same =
    rw (← same)
    (unions_joined b.class ms (scenarios bs (length ms)) (sets (length ms) b.most) (sets_long (length ms) b.most)
    ∙ ap (flat_map (λ d. map (union d) (scenarios bs (length ms)))) (days_of_sets b.class b.most ms))

every_joined : {X Y : Type 0} (p : Y → Bool) (f : X → List Y) (xs : List X) → every p (flat_map f xs) ≡ every (λ x. every p (f x)) xs
every_joined p f [] = refl
every_joined p f (x ∷ xs) = every_append p (f x) (flat_map f xs) ∙ ap (λ b. every p (f x) && b) (every_joined p f xs)

pub every_each : {X : Type 0} (P : X → Type 0) (p q : X → Bool) → ((x : X) → P x → p x ≡ q x) → (xs : List X) → Each P xs → every p xs ≡ every q xs
every_each P p q same [] each = refl
every_each P p q same (x ∷ xs) each = let a = same x each.0 in let b = every_each P p q same xs each.1 in cc

-- a route survives a pile when it survives what is below the outermost layer on each of that layer's days
pub survives_by_days : (accepts : Accepts) (b : Budget) (bs : List Budget) (ss : List Step) (ms : List ℕ) → length ms ≡ length ss
    → survives accepts (b ∷ bs) ss ms ≡ every (survives accepts bs ss) (days b.class b.most ms)
survives_by_days accepts b bs ss ms same =
    sym (every_map (accepts ss) (union ms) (scenarios (b ∷ bs) (length ss)))
    ∙ ap (every (accepts ss)) (scenarios_by_days b bs ms (length ss) same)
    ∙ every_joined (accepts ss) (λ d. map (union d) (scenarios bs (length ss))) (days b.class b.most ms)
    ∙ every_each (λ d. length d ≡ length ms) _ _ (λ d _. every_map (accepts ss) (union d) (scenarios bs (length ss))) (days b.class b.most ms) (length-days b.class b.most ms)
