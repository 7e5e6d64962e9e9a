-- Numbers in base ten: what digits write, and that a number's digits are read back. Assumes nothing.
use Rattle.std.proofs.Common.{◌≡◌, ℕ, zero, suc, ◌+◌, ◌-◌, ◌*◌, ◌^◌, ◌<◌, ◌≤◌, true, false, eqb, List, [], ◌∷◌, ◌++◌, length, get_or, take, drop, Some, decimal, sym, refl, ap, ◌∙◌, subst, ⊎_elim, arith, rules}
use Rattle.std.specs.Char.{is_ascii_digit}
use Rattle.std.specs.Str.{all_ascii_digits}
use Rattle.std.proofs.lemmas.Str.Parse.{IsNumeralModel, numerals_by_fold, digits_value_short}
use Rattle.std.proofs.lemmas.Fmt.{decimal-digits_value, digits_value-decimal, digits_decimal, length-decimal-le, decimal_nonempty, first_decimal, decimal_digit}
use Rattle.std.proofs.lemmas.Bool.{and_parts, or_cases, not-true, not_from_false, leb-true, eqb-true, eqb-false, le-leb, eq-eqb, ne_eqb, and_from, or_left, or_right, cases_order, cases_Bool, cond-true, cond-false}
use Rattle.std.proofs.lemmas.List.{take_at, drop_at, take-append-drop, at_drop_more}
use Rattle.lines.specs.Numerals.{read_on, digit_run, in_form, number_at}

pub own : IsNumeralModel (λ ds. all_ascii_digits ds ≡ true) (read_on 0)
own = numerals_by_fold _ (search rules) read_on (search rules)

pub read_on_ge : (n : ℕ) (ds : List ℕ) → n ≤ read_on n ds
read_on_ge n [] = omega arith
read_on_ge n (c ∷ cs) = omega (arith, read_on_ge (10 * n + (c - 48)) cs)

pub value_small : (ds : List ℕ) → all_ascii_digits ds ≡ true → length ds ≤ 6 → read_on 0 ds < 1000000
value_small ds digits short = digits_value_short own ds 6 digits short

pub digit_at : (ds : List ℕ) (i : ℕ) → all_ascii_digits ds ≡ true → i < length ds → 48 ≤ get_or ds i 0
digit_at [] i d h = absurd (omega arith)
digit_at (c ∷ cs) zero d h = leb-true 48 c (and_parts _ _ (and_parts _ _ d).0).0
digit_at (c ∷ cs) (suc i) d h = digit_at cs i (and_parts _ _ d).1 (omega arith)

pub digits_of_run : (t : List ℕ) → all_ascii_digits (take (digit_run t) t) ≡ true
digits_of_run [] = refl
digits_of_run (c ∷ cs) =
    ⊎_elim
    (λ e. rw e (and_from _ _ e (digits_of_run cs)))
    (λ e. rw e refl)
    (cases_Bool (is_ascii_digit c))

-- a run of digits ends where another byte stands
pub digit_run_stops : (ds : List ℕ) (c : ℕ) (t : List ℕ) → all_ascii_digits ds ≡ true → is_ascii_digit c ≡ false → digit_run (ds ++ c ∷ t) ≡ length ds
digit_run_stops [] c t d e = rw e refl
digit_run_stops (b ∷ ds) c t d e =
    let here : is_ascii_digit b ≡ true = (and_parts _ _ d).0 in
    rw here (ap suc (digit_run_stops ds c t (and_parts _ _ d).1 e))

-- digits in form are the numeral of the number that they write
pub written_back : (ds : List ℕ) → all_ascii_digits ds ≡ true → in_form ds ≡ true → (decimal (read_on 0 ds) ≡ ds) × (read_on 0 ds < 1000000)
written_back ds digits form =
    let long = and_parts _ _ (and_parts _ _ form).0 in
    let some : 1 ≤ length ds = leb-true 1 (length ds) long.0 in
    let small = value_small ds digits (leb-true (length ds) 6 long.1) in
    let one : (get_or ds 0 0 ≡ 48 → length ds ≡ 1) = λ z. ⊎_elim (eqb-true (length ds) 1) (λ n. absurd (eqb-false (get_or ds 0 0) 48 (not-true _ n) z)) (or_cases _ _ (and_parts _ _ form).1) in
    (decimal-digits_value own ds digits some one (omega arith), small)

pub numeral_in_form : (n : ℕ) → n < 1000000 → in_form (decimal n) ≡ true
numeral_in_form n small =
    let big : n < 2 ^ 64 = omega arith in
    and_from _ _
    (and_from _ _ (le-leb 1 (length (decimal n)) (decimal_nonempty n big)) (le-leb (length (decimal n)) 6 (length-decimal-le 6 n (omega arith) small big)))
    (⊎_elim
    (λ z. or_left _ _ (eq-eqb _ _ (ap length (decimal_digit n (omega arith)))))
    (⊎_elim (λ l. absurd (omega arith)) (λ p. or_right (eqb (length (decimal n)) 1) _ (not_from_false _ (ne_eqb (get_or (decimal n) 0 0) 48 (λ e. let f : 48 < get_or (decimal n) 0 0 = first_decimal n p big in omega arith)))))
    (cases_order n 0))

-- a text that begins with a number in form begins with its numeral
pub number_sound : (t : List ℕ) (n : ℕ) (r : List ℕ) → number_at t ≡ Some (n, r) → (t ≡ decimal n ++ r) × (n < 1000000)
number_sound t n r e =
    let ds = take (digit_run t) t in
    ⊎_elim
    (λ f.
    let found = rw f at e in
    let back = written_back ds (digits_of_run t) f in
    let pair : ◌≡◌ {A = ℕ × List ℕ} (read_on 0 ds, drop (digit_run t) t) (n, r) = cc in
    let is : read_on 0 ds ≡ n = ap (λ p. p.0) pair in
    let rest : drop (digit_run t) t ≡ r = ap (λ p. p.1) pair in
    (subst (λ m. t ≡ decimal m ++ r) is (subst (λ q. t ≡ decimal (read_on 0 ds) ++ q) rest (rw back.0 (sym (take-append-drop (digit_run t) t)))), subst (λ m. m < 1000000) is back.1))
    (λ f. let none = rw f at e in let z : ◌≡◌ {A = ℕ} 0 1 = cc in absurd (omega arith))
    (cases_Bool (in_form ds))

-- a numeral of at most six digits is read back, where no digit follows
pub number_complete : (n : ℕ) (c : ℕ) (t : List ℕ) → n < 1000000 → is_ascii_digit c ≡ false → number_at (decimal n ++ c ∷ t) ≡ Some (n, c ∷ t)
number_complete n c t small e =
    let digits = digits_decimal own n (omega arith) in
    let stops = digit_run_stops (decimal n) c t digits e in
    let front : take (digit_run (decimal n ++ c ∷ t)) (decimal n ++ c ∷ t) ≡ decimal n = take_at (decimal n) (c ∷ t) _ (sym stops) in
    let back : drop (digit_run (decimal n ++ c ∷ t)) (decimal n ++ c ∷ t) ≡ c ∷ t = drop_at (decimal n) (c ∷ t) _ (sym stops) in
    rw (front, back, numeral_in_form n small, digits_value-decimal own n (omega arith)) refl

-- a run of digits goes on over a digit, and ends before another byte
pub digit_run_here : (c : ℕ) (t : List ℕ) → is_ascii_digit c ≡ false → digit_run (c ∷ t) ≡ 0
digit_run_here c t e = cond-false _ _ _ e

pub digit_run_next : (c : ℕ) (t : List ℕ) → is_ascii_digit c ≡ true → digit_run (c ∷ t) ≡ digit_run t + 1
digit_run_next c t e = cond-true _ _ _ e ∙ omega arith

-- one step of the loop that reads digits
pub read_on-more : (n : ℕ) (ds : List ℕ) (i : ℕ) → i < length ds → read_on n (drop i ds) ≡ read_on (10 * n + (get_or ds i 0 - 48)) (drop (i + 1) ds)
read_on-more n ds i h = at_drop_more (read_on n) ds i 0 h

pub ten_digits : (n : ℕ) → n < 2 ^ 32 → length (decimal n) ≤ 10
ten_digits n small = length-decimal-le 10 n (omega arith) (omega arith) (omega arith)

-- the number read so far, with the next digit, is at most the whole number
pub room : (n : ℕ) (ds : List ℕ) (i : ℕ) → i < length ds → read_on n (drop i ds) ≡ read_on 0 ds → all_ascii_digits ds ≡ true → length ds ≤ 6 → 10 * n + (get_or ds i 0 - 48) < 1000000
room n ds i h kept digits short =
    let next = read_on-more n ds i h in
    let most = read_on_ge (10 * n + (get_or ds i 0 - 48)) (drop (i + 1) ds) in
    let small = value_small ds digits short in
    omega arith

pub ruleset reading = (room, digit_at)

pub ruleset runs = (digits_of_run, and_parts, leb-true)
