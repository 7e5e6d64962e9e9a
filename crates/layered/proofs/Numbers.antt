-- Rows by their number: what the rows of a layer's row are, and what a write to one of them leaves. Assumes nothing.
use Rattle.std.proofs.Common.{◌≡◌, ℕ, zero, suc, ◌+◌, ◌-◌, ◌*◌, ◌<◌, ◌≤◌, List, ◌++◌, length, take, drop, sym, refl, ap, ◌∙◌, ⊎_elim, append_assoc, mul-le-mul_right, suc-mul, zero-mul, arith}
use borrow.Rule.Slice.PartMut.{put_mid}
use Rattle.std.proofs.lemmas.List.{length-append, length-take, length-drop, take-append-le, drop-append-le, take_at, drop_at, take_all, drop-drop, append-nil, drop-take, take-take}
use Rattle.std.proofs.Math.Seq.{take-add}
use Rattle.std.proofs.lemmas.Slice.{take-put_mid_below, drop-put_mid}
use Rattle.std.proofs.lemmas.Bool.{cases_order}
use Rattle.layered.specs.Layered.{Numbered, row_at, rows, join_lower}

-- every row has w words, up to number n
abbrev pub Sized : ℕ → ℕ → Numbered → Type 0
Sized w n f = (g : ℕ) → g < n → length (f g) ≡ w

pub length-rows : (w n : ℕ) (f : Numbered) → Sized w n f → length (rows n f) ≡ n * w
length-rows w zero f sized = sym (zero-mul w)
length-rows w (suc n) f sized =
    length-append (rows n f) (f n) ∙ omega (arith, length-rows w n f (λ g h. sized g (omega arith)), sized n (omega arith), suc-mul n w)

-- the rows below number n end where row n begins
pub room : (w n g : ℕ) → g < n → g * w + w ≤ n * w
room w n g h = omega (arith, mul-le-mul_right {m = suc g} {n = n} w h, suc-mul g w)

pub row_at-rows : (w n : ℕ) (f : Numbered) → Sized w n f → (g : ℕ) → g < n → row_at w (rows n f) g ≡ f g
row_at-rows w zero f sized g h = absurd (omega arith)
row_at-rows w (suc n) f sized g h =
    let before : Sized w n f = λ k l. sized k (omega arith) in
    let long : length (rows n f) ≡ n * w = length-rows w n f before in
    ⊎_elim
    (λ e. rw e (ap (take w) (drop_at (rows n f) (f n) (n * w) long) ∙ take_all w (f n) (omega (arith, sized n (omega arith)))))
    (⊎_elim
    (λ l. let fits : g * w + w ≤ n * w = room w n g l in
    ap (take w) (drop-append-le (g * w) (rows n f) (f n) (omega arith))
    ∙ take-append-le w (drop (g * w) (rows n f)) (f n) (omega (arith, length-drop (g * w) (rows n f)))
    ∙ row_at-rows w n f before g l)
    (λ l. absurd (omega arith)))
    (cases_order g n)

pub rows_same : (n : ℕ) (f h : Numbered) → ((g : ℕ) → g < n → f g ≡ h g) → rows n f ≡ rows n h
rows_same zero f h same = refl
rows_same (suc n) f h same = let e = rows_same n f h (λ g l. same g (omega arith)) in let l = same n (omega arith) in cc

pub length-row_at : (w n : ℕ) (x : List ℕ) → length x ≡ n * w → Sized w n (row_at w x)
length-row_at w n x long g h =
    length-take w (drop (g * w) x) ∙ omega (arith, length-drop (g * w) x, room w n g h)

-- `&x[a..e]`, where it is a row
pub row_part : (w g a e : ℕ) (x : List ℕ) → a ≡ g * w → e ≡ a + w → take (e - a) (drop a x) ≡ row_at w x g
row_part w g a e x begins ends = let long : e - a ≡ w = omega arith in rw (long, begins)

-- A write to the part of a row that begins at a changes that row number alone.
module _ (w g a k : ℕ) (y new : List ℕ) (begins : a ≡ g * w) (part : k ≡ w) (inside : a + w ≤ length y) (sized : length new ≡ w) where
  start : drop (g * w) (put_mid a k y new) ≡ new ++ drop k (drop a y)
  start = ap (λ n. drop n (put_mid a k y new)) (sym begins) ∙ drop_at (take a y) (new ++ drop k (drop a y)) a (length-take a y ∙ omega arith)

  pub put_there : row_at w (put_mid a k y new) g ≡ new
  put_there = ap (take w) start ∙ take_at new (drop k (drop a y)) w sized

  pub put_below : (j : ℕ) → j < g → row_at w (put_mid a k y new) j ≡ row_at w y j
  put_below j h =
      let before = room w g j h in
      sym (drop-take (j * w) w (put_mid a k y new))
      ∙ ap (drop (j * w)) (take-put_mid_below a k y new (j * w + w) (omega arith) (omega arith))
      ∙ drop-take (j * w) w y

  pub put_above : (j : ℕ) → g < j → row_at w (put_mid a k y new) j ≡ row_at w y j
  put_above j h =
      let after = room w j g h in
      ap (take w) (drop-put_mid a k y new (j * w) (omega arith) (omega arith) (omega arith))

rows_of_front : (w n : ℕ) (x : List ℕ) → take (n * w) x ≡ rows n (row_at w x)
rows_of_front w zero x = rw (zero-mul w) refl
rows_of_front w (suc n) x = ap (λ k. take k x) (suc-mul n w) ∙ take-add (n * w) w x ∙ ap (λ z. z ++ row_at w x n) (rows_of_front w n x)

-- a row is its rows, one behind the other
pub rows_of_whole : (w n : ℕ) (x : List ℕ) (f : Numbered) → length x ≡ n * w → ((g : ℕ) → g < n → row_at w x g ≡ f g) → x ≡ rows n f
rows_of_whole w n x f long same = sym (take_all (n * w) x (omega arith)) ∙ rows_of_front w n x ∙ rows_same n (row_at w x) f same

-- the first row, and the others, of which each has one number less among themselves
pub rows_first : (n : ℕ) (f : Numbered) → rows (suc n) f ≡ f 0 ++ rows n (λ g. f (suc g))
rows_first zero f = sym (append-nil (f 0))
rows_first (suc n) f = ap (λ z. z ++ f (suc n)) (rows_first n f) ∙ append_assoc (f 0) (rows n (λ g. f (suc g))) (f (suc n))

pub row_at-drop : (w : ℕ) (x : List ℕ) (g : ℕ) → row_at w (drop w x) g ≡ row_at w x (suc g)
row_at-drop w x g = ap (take w) (drop-drop (g * w) w x ∙ ap (λ k. drop k x) (omega (arith, suc-mul g w)))

pub row_at-take : (w n : ℕ) (x : List ℕ) (g : ℕ) → g < n → row_at w (take (n * w) x) g ≡ row_at w x g
row_at-take w n x g h =
    sym (drop-take (g * w) w (take (n * w) x))
    ∙ ap (drop (g * w)) (take-take (g * w + w) (n * w) x (room w n g h))
    ∙ drop-take (g * w) w x

-- What a loop adds to the rows but row 0, from the rows with one number less.
pub lower_added : (w n : ℕ) (join : List ℕ → List ℕ → List ℕ) (e : List ℕ → List ℕ) (from onto : List ℕ) → take w onto ++ rows n (λ g. join (row_at w (drop w onto) g) (e (row_at w (take (n * w) from) g))) ≡ rows (suc n) (join_lower join (row_at w onto) (λ g. e (row_at w from g)))
lower_added w n join e from onto =
    sym (rows_first n (join_lower join (row_at w onto) (λ g. e (row_at w from g)))
    ∙ ap (λ k. take w (drop k onto) ++ rows n (λ g. join (row_at w onto (suc g)) (e (row_at w from g)))) (zero-mul w)
    ∙ ap (λ z. take w onto ++ z) (rows_same n _ _ (λ g h. sym (ap (λ y. join y (e (row_at w (take (n * w) from) g))) (row_at-drop w onto g) ∙ ap (λ y. join (row_at w onto (suc g)) (e y)) (row_at-take w n from g h)))))
