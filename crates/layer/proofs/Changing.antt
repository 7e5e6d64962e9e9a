-- Rows that are changed one by one, each by a call of its own. Assumes nothing.
use Rattle.std.proofs.Common.{◌≡◌, ℕ, ◌+◌, ◌*◌, ◌<◌, ◌≤◌, List, length, sym, ap, ◌∙◌, ⊎_elim, arith, subst, length-append, length-take, length-drop}
use denote.Ref.{MutBor}
use borrow.Rule.Slice.PartMut.{put_mid}
use Rattle.std.proofs.lemmas.Bool.{cases_order}
use Rattle.layered.specs.Layered.{row_at, rows}
use Rattle.layered.proofs.Numbers.{room, put_there, put_below, put_above, rows_of_whole, length-row_at}
use Rattle.layer.specs.Changes.{May, Did, EachDone}

module _ (may : ℕ → May) (w n : ℕ) where
  -- the rows below number g were changed, the others are as they were
  pub record Sofar (old y : List ℕ) (g : ℕ) : Type 0 where
    pub long : length y ≡ n * w
    pub done : (k : ℕ) → k < g → Did (may k) (row_at w old k) (row_at w y k)
    pub ahead : (k : ℕ) → g ≤ k → row_at w y k ≡ row_at w old k

  module _ (old y : List ℕ) (g a k : ℕ) (sofar : Sofar old y g) (within : g < n) (begins : a ≡ g * w) (part : k ≡ w) where
    pub one_more : (new : List ℕ) (found left : MutBor (List ℕ)) → may g found tt left → found.now ≡ row_at w y g → left.now ≡ new → length new ≡ w → Sofar old (put_mid a k y new) (g + 1)
    one_more new found left met finds leaves sized =
        let inside : a + w ≤ length y = omega (arith, room w n g within, sofar.long) in
        let here = put_there w g a k y new begins part inside sized in
        record {
          long = simp (length-append, length-take, length-drop) (omega arith);
          done = λ j h. ⊎_elim
              (λ e. subst (λ i. Did (may i) (row_at w old i) (row_at w (put_mid a k y new) i)) (sym e) (record { found = found; finds = finds ∙ sofar.ahead g (omega arith); left = left; leaves = leaves ∙ sym here; met = met }))
              (⊎_elim
              (λ l. subst (Did (may j) (row_at w old j)) (sym (put_below w g a k y new begins part inside sized j l)) (sofar.done j l))
              (λ l. absurd (omega arith)))
              (cases_order j g);
          ahead = λ j h. put_above w g a k y new begins part inside sized j (omega arith) ∙ sofar.ahead j (omega arith);
        }

-- a call on a row of the width makes of row number k what F says
abbrev pub Does : (ℕ → May) → ℕ → ℕ → (ℕ → List ℕ → List ℕ) → Type 0
Does may w n F = (k : ℕ) (found left : MutBor (List ℕ)) → k < n → length found.now ≡ w → may k found tt left → left.now ≡ F k found.now

-- such calls change every row; the code counts the rows
pub all_changed : (may : ℕ → May) (w n count : ℕ) → count ≡ n → (F : ℕ → List ℕ → List ℕ) (old new : List ℕ) → Does may w count F → length old ≡ n * w → length new ≡ count * w → EachDone may w count old new → new ≡ rows n (λ k. F k (row_at w old k))
all_changed may w n count counted F old new does long-old long done =
    rows_of_whole w count new (λ k. F k (row_at w old k)) long (λ k h. let d = done k h in
    sym d.leaves ∙ does k d.found d.left h (ap length d.finds ∙ length-row_at w n old long-old k (omega arith)) d.met ∙ ap (F k) d.finds)
    ∙ ap (λ i. rows i (λ k. F k (row_at w old k))) counted
