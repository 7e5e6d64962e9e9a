-- A layer keeps the laws that the resource below it keeps. Assumes nothing.
use Rattle.std.proofs.Common.{◌≡◌, ℕ, zero, suc, ◌*◌, ◌<◌, Bool, List, length, sym, refl, ap, ◌∙◌, arith}
use lib.Bits.{bit_or}
use Rattle.records.specs.declared.step.Step.{Step}
use Rattle.resource.specs.Rows.{Extension, Lawful}
use Rattle.layered.specs.Layered.{Join, Numbered, row_at, rows, join_lower, next_row, layered_start, layered_extension, layered_join, layered_verdict}
use Rattle.layered.proofs.Numbers.{Sized, length-rows, row_at-rows, rows_same, length-row_at}

join_lower_at : (join : Join) (f h lower : Numbered) (g : ℕ) → f g ≡ h g → join_lower join f lower g ≡ join_lower join h lower g
join_lower_at join f h lower zero same = same
join_lower_at join f h lower (suc g) same = ap (λ y. join y (lower g)) same

module _ {w : ℕ} {start : List ℕ} {ext : Extension} {join : Join} {verdict : List ℕ → Bool} (laws : Lawful w start ext join verdict) where
  -- two pairs of rows joined crosswise
  pub join_crosswise : (a b c d : List ℕ) → length a ≡ w → length b ≡ w → length c ≡ w → length d ≡ w → join (join a b) (join c d) ≡ join (join a c) (join b d)
  join_crosswise a b c d la lb lc ld =
      laws.join_associative a b (join c d) la lb (laws.join_width c d lc ld)
      ∙ ap (join a) (sym (laws.join_associative b c d lb lc ld) ∙ ap (λ z. join z d) (laws.join_commutative b c lb lc) ∙ laws.join_associative c b d lc lb ld)
      ∙ sym (laws.join_associative a c (join b d) la lc (laws.join_width b d lb ld))

  module _ (class : ℕ) where
    pub next_row_sized : (n : ℕ) (s : Step) (m : ℕ) (f : Numbered) → Sized w n f → Sized w n (next_row ext join class s m f)
    next_row_sized n s m f sized zero h = laws.extension_width s m (f 0) (sized 0 h)
    next_row_sized n s m f sized (suc g) h =
        laws.join_width _ _ (laws.extension_width s m (f (suc g)) (sized (suc g) h)) (laws.extension_width s (bit_or m class) (f g) (sized g (omega arith)))

    -- a row after a step depends on the rows with its number and the one before alone
    pub next_row_same : (n : ℕ) (s : Step) (m : ℕ) (f h : Numbered) → ((g : ℕ) → g < n → f g ≡ h g) → (g : ℕ) → g < n → next_row ext join class s m f g ≡ next_row ext join class s m h g
    next_row_same n s m f h same zero l = ap (ext s m) (same 0 l)
    next_row_same n s m f h same (suc g) l = let e = same (suc g) l in let d = same g (omega arith) in cc

    pub next_row-join : (n : ℕ) (s : Step) (m : ℕ) (f h : Numbered) → Sized w n f → Sized w n h → (g : ℕ) → g < n
        → next_row ext join class s m (λ k. join (f k) (h k)) g ≡ join (next_row ext join class s m f g) (next_row ext join class s m h g)
    next_row-join n s m f h sf sh zero l = laws.extension_of_join s m (f 0) (h 0) (sf 0 l) (sh 0 l)
    next_row-join n s m f h sf sh (suc g) l =
        let k : g < n = omega arith in
        let plain = laws.extension_of_join s m (f (suc g)) (h (suc g)) (sf (suc g) l) (sh (suc g) l) in
        let marked = laws.extension_of_join s (bit_or m class) (f g) (h g) (sf g k) (sh g k) in
        rw (plain, marked)
        (join_crosswise (ext s m (f (suc g))) (ext s m (h (suc g))) (ext s (bit_or m class) (f g)) (ext s (bit_or m class) (h g))
        (laws.extension_width s m (f (suc g)) (sf (suc g) l)) (laws.extension_width s m (h (suc g)) (sh (suc g) l))
        (laws.extension_width s (bit_or m class) (f g) (sf g k)) (laws.extension_width s (bit_or m class) (h g) (sh g k)))

    module _ (most : ℕ) where
      abbrev n : ℕ
      n = suc most

      sized_at : (x : List ℕ) → length x ≡ n * w → Sized w n (row_at w x)
      sized_at x long = length-row_at w n x long

      sized_join : (x y : List ℕ) → length x ≡ n * w → length y ≡ n * w → Sized w n (λ g. join (row_at w x g) (row_at w y g))
      sized_join x y lx ly g h = laws.join_width _ _ (sized_at x lx g h) (sized_at y ly g h)

      row_at-join : (x y : List ℕ) → length x ≡ n * w → length y ≡ n * w → (g : ℕ) → g < n → row_at w (layered_join most w join x y) g ≡ join (row_at w x g) (row_at w y g)
      row_at-join x y lx ly = row_at-rows w n _ (sized_join x y lx ly)

      pub layered_lawful : Lawful (n * w) (layered_start most start) (layered_extension class most w ext join) (layered_join most w join) (layered_verdict most w verdict)
      layered_lawful = record {
        start_width = length-rows w n (λ g. start) (λ g h. laws.start_width);
        extension_width = λ s m x lx. length-rows w n _ (next_row_sized n s m (row_at w x) (sized_at x lx));
        join_width = λ x y lx ly. length-rows w n _ (sized_join x y lx ly);
        join_associative = λ x y z lx ly lz. rows_same n _ _ (λ g h.
            let xy = row_at-join x y lx ly g h in
            let yz = row_at-join y z ly lz g h in
            rw (xy, yz) (laws.join_associative (row_at w x g) (row_at w y g) (row_at w z g) (sized_at x lx g h) (sized_at y ly g h) (sized_at z lz g h)));
        join_commutative = λ x y lx ly. rows_same n _ _ (λ g h. laws.join_commutative (row_at w x g) (row_at w y g) (sized_at x lx g h) (sized_at y ly g h));
        extension_of_join = λ s m x y lx ly. rows_same n _ _ (λ g h.
            next_row_same n s m _ _ (row_at-join x y lx ly) g h
            ∙ next_row-join n s m (row_at w x) (row_at w y) (sized_at x lx) (sized_at y ly) g h
            ∙ (let ex = row_at-rows w n _ (next_row_sized n s m (row_at w x) (sized_at x lx)) g h in
            let ey = row_at-rows w n _ (next_row_sized n s m (row_at w y) (sized_at y ly)) g h in cc));
        verdict_of_join = λ x y lx ly.
            ap verdict (row_at-join x y lx ly most (omega arith))
            ∙ laws.verdict_of_join (row_at w x most) (row_at w y most) (sized_at x lx most (omega arith)) (sized_at y ly most (omega arith));
        verdict_of_start = ap verdict (row_at-rows w n (λ g. start) (λ g h. laws.start_width) most (omega arith)) ∙ laws.verdict_of_start;
      }

      -- a layer's extension in two rounds: first without the class, then what the class adds
      module _ (s : Step) (m : ℕ) (x : List ℕ) (long : length x ≡ n * w) where
        abbrev plain : Numbered
        plain g = ext s m (row_at w x g)

        abbrev marked : Numbered
        marked g = ext s (bit_or m class) (row_at w x g)

        sized_plain : Sized w n plain
        sized_plain g h = laws.extension_width s m (row_at w x g) (sized_at x long g h)

        sized_marked : Sized w n marked
        sized_marked g h = laws.extension_width s (bit_or m class) (row_at w x g) (sized_at x long g h)

        pub extended : rows n (join_lower join (row_at w (rows n plain)) marked) ≡ layered_extension class most w ext join s m x
        extended = rows_same n _ _ (λ g h. join_lower_at join (row_at w (rows n plain)) plain marked g (row_at-rows w n plain sized_plain g h))

        module _ (y : List ℕ) (long-y : length y ≡ n * w) where
          onto_at : (g : ℕ) → g < n → join_lower join (λ k. join (row_at w y k) (plain k)) marked g ≡ join (row_at w y g) (next_row ext join class s m (row_at w x) g)
          onto_at zero h = refl
          onto_at (suc g) h =
              laws.join_associative (row_at w y (suc g)) (plain (suc g)) (marked g) (sized_at y long-y (suc g) h) (sized_plain (suc g) h) (sized_marked g (omega arith))

          pub extended_onto : rows n (join_lower join (row_at w (rows n (λ g. join (row_at w y g) (plain g)))) marked) ≡ layered_join most w join y (layered_extension class most w ext join s m x)
          extended_onto = rows_same n _ _ (λ g h.
              join_lower_at join (row_at w (rows n (λ k. join (row_at w y k) (plain k)))) (λ k. join (row_at w y k) (plain k)) marked g
              (row_at-rows w n _ (λ k l. laws.join_width _ _ (sized_at y long-y k l) (sized_plain k l)) g h)
              ∙ onto_at g h
              ∙ ap (join (row_at w y g)) (sym (row_at-rows w n _ (next_row_sized n s m (row_at w x) (sized_at x long)) g h)))
