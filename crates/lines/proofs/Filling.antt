-- Templates with numbers in their places, and the loops that write them. Assumes nothing.
use Rattle.std.proofs.Common.{◌≡◌, ℕ, suc, ◌+◌, ◌*◌, ◌<◌, ◌≤◌, true, false, eqb, List, [], ◌∷◌, ◌++◌, length, get_or, drop, decimal, sym, refl, ap, ◌∙◌, ⊎_elim, subst, ◌^◌, arith, length-append}
use Rattle.std.proofs.lemmas.List.{drop_more, append_assoc}
use Rattle.std.proofs.lemmas.Bool.{cases_Bool, cond-true, cond-false, eq-eqb, ne_eqb}
use Rattle.lines.specs.Scan.{holes}
use Rattle.lines.proofs.Digits.{ten_digits}
use Rattle.lines.proofs.Scanning.{holes_at_hole, holes_at_byte}
use Rattle.lines.specs.declared.line.Form.{Form}
use Rattle.lines.specs.declared.line.Form.TheVariants.{Day, Depot, Capacity, Drive, TravelBudget, ServeBudget, DemandBudget, Stops, Stop, Leg, End}
use Rattle.lines.specs.Forms.{place, filled, template}

pub at_hole : (c : ℕ) (p : List ℕ) (k : ℕ) (ns : List ℕ) → eqb c 35 ≡ true → filled (c ∷ p) k ns ≡ decimal (get_or ns k 0) ++ filled p (suc k) ns
at_hole c p k ns y = ap (λ b. place b c k ns (λ j. filled p j ns)) y

pub at_byte : (c : ℕ) (p : List ℕ) (k : ℕ) (ns : List ℕ) → eqb c 35 ≡ false → filled (c ∷ p) k ns ≡ c ∷ filled p k ns
at_byte c p k ns n = ap (λ b. place b c k ns (λ j. filled p j ns)) n

-- the first number that is left fills the next place
pub filled_next : (p : List ℕ) (k n : ℕ) (ns : List ℕ) → filled p (suc k) (n ∷ ns) ≡ filled p k ns
filled_next [] k n ns = refl
filled_next (c ∷ p) k n ns =
    ⊎_elim
    (λ y. at_hole c p (suc k) (n ∷ ns) y ∙ ap (λ q. decimal (get_or ns k 0) ++ q) (filled_next p (suc k) n ns) ∙ sym (at_hole c p k ns y))
    (λ b. at_byte c p (suc k) (n ∷ ns) b ∙ ap (λ q. c ∷ q) (filled_next p k n ns) ∙ sym (at_byte c p k ns b))
    (cases_Bool (eqb c 35))

module _ (p : List ℕ) (i : ℕ) (h : i < length p) where
  pub next_number : (n : ℕ) (ns : List ℕ) → get_or p i 0 ≡ 35 → filled (drop i p) 0 (n ∷ ns) ≡ decimal n ++ filled (drop (i + 1) p) 0 ns
  next_number n ns e =
      ap (λ q. filled q 0 (n ∷ ns)) (drop_more p i 0 h) ∙ at_hole (get_or p i 0) (drop (i + 1) p) 0 (n ∷ ns) (eq-eqb _ 35 e) ∙ ap (λ q. decimal n ++ q) (filled_next (drop (i + 1) p) 0 n ns)

  pub next_byte : (ns : List ℕ) → (get_or p i 0 ≡ 35 → ⊥) → filled (drop i p) 0 ns ≡ get_or p i 0 ∷ filled (drop (i + 1) p) 0 ns
  next_byte ns e = ap (λ q. filled q 0 ns) (drop_more p i 0 h) ∙ at_byte (get_or p i 0) (drop (i + 1) p) 0 ns (ne_eqb _ 35 e)

pub short_template : (f : Form) → length (template f) + holes (template f) * 9 ≤ 160
short_template Day = omega arith
short_template Depot = omega arith
short_template Capacity = omega arith
short_template Drive = omega arith
short_template TravelBudget = omega arith
short_template ServeBudget = omega arith
short_template DemandBudget = omega arith
short_template Stops = omega arith
short_template Stop = omega arith
short_template Leg = omega arith
short_template End = omega arith

-- a template has at most m bytes more for each place, where its numbers have at most m + 1 digits
pub filled_short : (m : ℕ) (p : List ℕ) (k : ℕ) (ns : List ℕ) → ((i : ℕ) → length (decimal (get_or ns i 0)) ≤ m + 1) → length (filled p k ns) ≤ length p + holes p * m
filled_short m [] k ns s = omega arith
filled_short m (c ∷ p) k ns s =
    ⊎_elim
    (λ y.
    let more : holes (c ∷ p) * m ≡ m + holes p * m = ap (λ n. n * m) (cond-true (eqb c 35) (suc (holes p)) (holes p) y) ∙ omega arith in
    let size = ap length (at_hole c p k ns y) ∙ length-append (decimal (get_or ns k 0)) (filled p (suc k) ns) in
    omega (arith, filled_short m p (suc k) ns s, s k))
    (λ n.
    let same : holes (c ∷ p) * m ≡ holes p * m = ap (λ n. n * m) (cond-false (eqb c 35) (suc (holes p)) (holes p) n) in
    let size = ap length (at_byte c p k ns n) in
    omega (arith, filled_short m p k ns s))
    (cases_Bool (eqb c 35))

-- The template p, with the numbers ns in its places, as far as it is written: `done`, of the first i bytes of p. The numbers
-- that are left are as many as the places that are left.
pub record Filling (p ns : List ℕ) (i : ℕ) (done left : List ℕ) : Type 0 where
  pub few : length left ≡ holes (drop i p)
  pub text : done ++ filled (drop i p) 0 left ≡ filled p 0 ns

module _ (p ns : List ℕ) (i : ℕ) (done left : List ℕ) (so : Filling p ns i done left) where
  -- what is written has room
  pub has_room : (f : Form) → p ≡ template f → ((k : ℕ) → get_or ns k 0 < 2 ^ 32) → length done ≤ 160
  has_room f is small =
      let short : length (filled p 0 ns) ≤ length p + holes p * 9 = filled_short 9 p 0 ns (λ k. ten_digits (get_or ns k 0) (small k)) in
      let most : length p + holes p * 9 ≤ 160 = subst (λ q. length q + holes q * 9 ≤ 160) (sym is) (short_template f) in
      omega (arith, simp length-append at (ap length so.text))

  module _ (h : i < length p) (done' : List ℕ) where
    pub number_filled : (n : ℕ) (rest digits : List ℕ) → get_or p i 0 ≡ 35 → left ≡ n ∷ rest → digits ≡ decimal n → done' ≡ done ++ digits → Filling p ns (i + 1) done' rest
    number_filled n rest digits here next is now = record {
      few = omega (arith, ap length next, holes_at_hole p i h here, so.few);
      text = ap (λ q. q ++ filled (drop (i + 1) p) 0 rest) now ∙ append_assoc done digits (filled (drop (i + 1) p) 0 rest)
          ∙ ap (λ q. done ++ (q ++ filled (drop (i + 1) p) 0 rest)) is
          ∙ ap (λ q. done ++ q) (sym (next_number p i h n rest here) ∙ ap (filled (drop i p) 0) (sym next)) ∙ so.text;
    }

    pub byte_filled : (get_or p i 0 ≡ 35 → ⊥) → done' ≡ done ++ get_or p i 0 ∷ [] → Filling p ns (i + 1) done' left
    byte_filled here now = record {
      few = so.few ∙ holes_at_byte p i h here;
      text = ap (λ q. q ++ filled (drop (i + 1) p) 0 left) now ∙ append_assoc done (get_or p i 0 ∷ []) (filled (drop (i + 1) p) 0 left)
          ∙ ap (λ q. done ++ q) (sym (next_byte p i h left here)) ∙ so.text;
    }
