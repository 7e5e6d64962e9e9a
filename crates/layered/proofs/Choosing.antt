-- The choice of a layer's set as a loop makes it, one step after the other. Assumes nothing.
use Rattle.std.proofs.Common.{◌≡◌, ℕ, ◌+◌, ◌-◌, ◌≤◌, Bool, false, List, ◌++◌, length, take, drop, sym, ap, ◌∙◌, ap₂, append_assoc, arith, length-drop, length-take, take-add}
use borrow.Rule.Slice.PartMut.{put_mid}
use Rattle.std.proofs.lemmas.List.{take-append-drop, take_at, drop_at, drop-drop, drop_all, append-nil, take_rest}
use Rattle.records.specs.declared.step.Step.{Step}
use Rattle.resource.specs.Rows.{Extension}
use Rattle.layered.specs.Days.{accepted, chosen, Chose}

-- what a write to `xs[i..]` leaves
pub put_rest : (i : ℕ) (xs new : List ℕ) → put_mid i (length xs - i) xs new ≡ take i xs ++ new
put_rest i xs new =
    ap (λ z. take i xs ++ (new ++ z)) (drop_all (length xs - i) (drop i xs) (omega (arith, length-drop i xs))) ∙ ap (λ z. take i xs ++ z) (append-nil new)

module _ (i : ℕ) (xs new : List ℕ) (within : i ≤ length xs) where
  long : length (take i xs) ≡ i
  long = length-take i xs ∙ omega arith

  back : drop i (take i xs ++ new) ≡ new
  back = drop_at (take i xs) new i long

  drop_put : drop (i + 1) (put_mid i (length xs - i) xs new) ≡ drop 1 new
  drop_put = ap (drop (i + 1)) (put_rest i xs new) ∙ sym (drop-drop 1 i (take i xs ++ new)) ∙ ap (drop 1) back

  take_put : take (i + 1) (put_mid i (length xs - i) xs new) ≡ take i xs ++ take 1 new
  take_put =
      ap (take (i + 1)) (put_rest i xs new) ∙ take-add i 1 (take i xs ++ new)
      ∙ ap₂ (λ p q. p ++ take 1 q) (take_at (take i xs) new i long) back

module _ (ext : Extension) (verdict : List ℕ → Bool) (class : ℕ) (ss : List Step) where
  -- the budget left is not enough for any accepted way on, and the marks so far with those to come are the day
  pub record Choosing (day ms x : List ℕ) (i g : ℕ) : Type 0 where
    pub refused : accepted ext verdict class (drop i ss) (drop i ms) x g ≡ false
    pub so_far : take i ms ++ chosen ext verdict class (drop i ss) (drop i ms) x g ≡ day

  pub choosing_more : (day ms x : List ℕ) (i g : ℕ) (new x' : List ℕ) (g' : ℕ) → i ≤ length ms → Choosing day ms x i g
      → Chose ext verdict class (take (length ss - i) (drop i ss)) (take (length ms - i) (drop i ms)) x g new x' g'
      → Choosing day (put_mid i (length ms - i) ms new) x' (i + 1) g'
  choosing_more day ms x i g new x' g' within choosing chose =
      let rest-ss : drop 1 (take (length ss - i) (drop i ss)) ≡ drop (i + 1) ss = ap (drop 1) (take_rest ss i) ∙ drop-drop 1 i ss in
      let rest-ms = drop_put i ms new within in
      record {
        refused = ap₂ (λ ts ns. accepted ext verdict class ts ns x' g') (sym rest-ss) rest-ms ∙ chose.refused;
        so_far =
            ap₂ ◌++◌ (take_put i ms new within) (ap₂ (λ ts ns. chosen ext verdict class ts ns x' g') (sym rest-ss) rest-ms)
            ∙ append_assoc (take i ms) (take 1 new) _
            ∙ ap (λ z. take i ms ++ z) (sym chose.day ∙ ap₂ (λ ts ns. chosen ext verdict class ts ns x g) (take_rest ss i) (take_rest ms i))
            ∙ choosing.so_far;
      }

  pub choosing_all : (day ms x : List ℕ) (i g : ℕ) → length ss ≤ i → Choosing day ms x i g → ms ≡ day
  choosing_all day ms x i g past choosing =
      sym (take-append-drop i ms) ∙ ap (λ z. take i ms ++ z) (sym (ap (λ ts. chosen ext verdict class ts (drop i ms) x g) (drop_all i ss past))) ∙ choosing.so_far
