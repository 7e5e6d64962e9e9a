-- A list that is written into a slice from its front on, piece by piece. Assumes nothing.
use Rattle.std.proofs.Common.{◌≡◌, ℕ, ◌+◌, ◌≤◌, List, [], ◌∷◌, ◌++◌, length, take, drop, set, sym, refl, ap, ◌∙◌, subst, arith, length-append, length-drop, length-set, length-take}
use borrow.Rule.Slice.PartMut.{put_mid}
use Rattle.std.proofs.lemmas.List.{append_assoc, append-nil, take-append-drop, drop-drop, take_more_set, drop-set-lt, length-take-le}
use Rattle.std.proofs.lemmas.Slice.{take-put_mid, drop-put_mid}

-- what is written so far: the front of `text` in the front of the slice, and the rest of the slice as it was
pub record Sofar {X : Type 0} (text old out rest : List X) (at : ℕ) : Type 0 where
  pub within : at ≤ length out
  pub front : take at out ++ rest ≡ text
  pub back : drop at out ≡ drop at old

module _ {X : Type 0} (text old out rest : List X) (at : ℕ) (so : Sofar text old out rest at) (room : length text ≤ length out) where
  -- what is left to write fits
  pub fits : at + length rest ≤ length out
  fits = omega (arith, so.within, simp (length-append, length-take) at (ap length so.front))

  later : (n : ℕ) → drop (at + n) out ≡ drop (at + n) old
  later n = sym (drop-drop n at out) ∙ ap (drop n) so.back ∙ drop-drop n at old

  pub part_written : (piece more : List X) (k : ℕ) → rest ≡ piece ++ more → length piece ≡ k → Sofar text old (put_mid at k out piece) more (at + k)
  part_written piece more k is size =
      let long = ap length is ∙ length-append piece more in
      let here = fits in
      let start = so.within in
      record {
        within = simp (length-append, length-take, length-drop) (omega arith);
        front = ap (λ q. q ++ more) (take-put_mid at k out piece (at + k) (omega arith) start) ∙ append_assoc (take at out) piece more ∙ ap (λ q. take at out ++ q) (sym is) ∙ so.front;
        back = drop-put_mid at k out piece (at + k) (omega arith) start size ∙ later k;
      }

  pub one_written : (c : X) (more : List X) → rest ≡ c ∷ more → Sofar text old (set out at c) more (at + 1)
  one_written c more is =
      let long = ap length is in
      let here = fits in
      record {
        within = simp length-set (omega arith);
        front = ap (λ q. q ++ more) (take_more_set out at c (omega arith)) ∙ append_assoc (take at out) (c ∷ []) more ∙ ap (λ q. take at out ++ q) (sym is) ∙ so.front;
        back = drop-set-lt (at + 1) out at c (omega arith) ∙ later 1;
      }

pub nothing_yet : {X : Type 0} (text old : List X) → Sofar text old old text 0
nothing_yet text old = record { within = omega arith; front = refl; back = refl }

pub written_size : {X : Type 0} (text old out rest : List X) (at : ℕ) → Sofar text old out rest at → rest ≡ [] → at ≡ length text
written_size text old out rest at so none = sym (length-take-le at out so.within) ∙ ap length (sym (append-nil (take at out)) ∙ ap (λ q. take at out ++ q) (sym none) ∙ so.front)

pub all_written : {X : Type 0} (text old out rest : List X) (at : ℕ) → Sofar text old out rest at → rest ≡ [] → out ≡ text ++ drop (length text) old
all_written text old out rest at so none =
    let whole : take at out ≡ text = sym (append-nil (take at out)) ∙ ap (λ q. take at out ++ q) (sym none) ∙ so.front in
    let size : at ≡ length text = written_size text old out rest at so none in
    sym (take-append-drop at out) ∙ (λ i. whole i ++ so.back i) ∙ ap (λ n. text ++ drop n old) size

pub moved : {X : Type 0} (text old out out' rest rest' : List X) (at at' : ℕ) → out' ≡ out → rest' ≡ rest → at' ≡ at → Sofar text old out rest at → Sofar text old out' rest' at'
moved text old out out' rest rest' at at' o r a so =
    record { within = subst (λ n. n ≤ length out') (sym a) (subst (λ l. at ≤ length l) (sym o) so.within); front = (λ i. take (a i) (o i) ++ r i) ∙ so.front; back = (λ i. drop (a i) (o i)) ∙ so.back ∙ ap (λ n. drop n old) (sym a) }
