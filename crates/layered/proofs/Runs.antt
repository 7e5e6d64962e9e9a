-- What a route makes of a layer's rows: the verdict on row number g is yes exactly when the resource below accepts the
-- route on each day that at most g marks make. Assumes nothing.
use Rattle.std.proofs.Common.{◌≡◌, ℕ, zero, suc, ◌*◌, ◌<◌, Bool, true, false, ◌&&◌, List, [], ◌∷◌, ◌++◌, map, length, sym, refl, ap, ◌∙◌, arith}
use lib.Bits.{bit_or}
use Rattle.records.specs.declared.step.Step.{Step}
use Rattle.resource.specs.Rows.{Extension, Lawful, run}
use Rattle.resource.specs.Scenarios.{every}
use Rattle.layered.specs.Layered.{Join, Numbered, row_at, rows, next_row, layered_extension}
use Rattle.layered.specs.Days.{days, accepted}
use Rattle.layered.proofs.Numbers.{Sized, row_at-rows, length-rows, length-row_at}
use Rattle.layered.proofs.Laws.{join_crosswise, next_row_sized, next_row_same}

and_true : (b : Bool) → b ≡ (b && true)
and_true true = refl
and_true false = refl

and_assoc : (a b c : Bool) → ((a && b) && c) ≡ (a && (b && c))
and_assoc true b c = refl
and_assoc false b c = refl

pub every_append : {X : Type 0} (p : X → Bool) (xs ys : List X) → every p (xs ++ ys) ≡ (every p xs && every p ys)
every_append p [] ys = refl
every_append p (x ∷ xs) ys = ap (λ b. p x && b) (every_append p xs ys) ∙ sym (and_assoc (p x) (every p xs) (every p ys))

pub every_map : {X Y : Type 0} (p : Y → Bool) (f : X → Y) (xs : List X) → every p (map f xs) ≡ every (λ x. p (f x)) xs
every_map p f [] = refl
every_map p f (x ∷ xs) = ap (λ b. p (f x) && b) (every_map p f xs)

-- every row has w words
abbrev pub Wide : ℕ → Numbered → Type 0
Wide w f = (g : ℕ) → length (f g) ≡ w

module _ {w : ℕ} {start : List ℕ} {ext : Extension} {join : Join} {verdict : List ℕ → Bool} (laws : Lawful w start ext join verdict) (class : ℕ) where
  -- what a route makes of all the rows
  abbrev run_rows : List Step → List ℕ → Numbered → Numbered
  run_rows [] ms f = f
  run_rows (s ∷ ss) [] f = run_rows ss [] (next_row ext join class s 0 f)
  run_rows (s ∷ ss) (m ∷ ms) f = run_rows ss ms (next_row ext join class s m f)

  next_wide : (s : Step) (m : ℕ) (f : Numbered) → Wide w f → Wide w (next_row ext join class s m f)
  next_wide s m f wide g = next_row_sized laws class (suc g) s m f (λ k h. wide k) g (omega arith)

  run_wide : (ss : List Step) (ms : List ℕ) (f : Numbered) → Wide w f → Wide w (run_rows ss ms f)
  run_wide [] ms f wide = wide
  run_wide (s ∷ ss) [] f wide = run_wide ss [] _ (next_wide s 0 f wide)
  run_wide (s ∷ ss) (m ∷ ms) f wide = run_wide ss ms _ (next_wide s m f wide)

  -- each row of r is that of a, joined with the row of b that has one number less
  pub record Shifted (r a b : Numbered) : Type 0 where
    pub first : r 0 ≡ a 0
    pub more : (g : ℕ) → r (suc g) ≡ join (a (suc g)) (b g)

  next_shifted : (s : Step) (m : ℕ) (r a b : Numbered) → Wide w a → Wide w b → Shifted r a b
      → Shifted (next_row ext join class s m r) (next_row ext join class s m a) (next_row ext join class s m b)
  next_shifted s m r a b wa wb shifted = record { first = ap (ext s m) shifted.first; more = more }
    where
      e : List ℕ → List ℕ
      e = ext s m

      e' : List ℕ → List ℕ
      e' = ext s (bit_or m class)

      le : (x : List ℕ) → length x ≡ w → length (e x) ≡ w
      le = laws.extension_width s m

      le' : (x : List ℕ) → length x ≡ w → length (e' x) ≡ w
      le' = laws.extension_width s (bit_or m class)

      more : (g : ℕ) → next_row ext join class s m r (suc g) ≡ join (next_row ext join class s m a (suc g)) (next_row ext join class s m b g)
      more zero =
          ap (λ z. join (e z) (e' (r 0))) (shifted.more 0) ∙ ap (λ z. join z (e' (r 0))) (laws.extension_of_join s m (a 1) (b 0) (wa 1) (wb 0))
          ∙ ap (λ z. join (join (e (a 1)) (e (b 0))) (e' z)) shifted.first
          ∙ laws.join_associative (e (a 1)) (e (b 0)) (e' (a 0)) (le _ (wa 1)) (le _ (wb 0)) (le' _ (wa 0))
          ∙ ap (join (e (a 1))) (laws.join_commutative (e (b 0)) (e' (a 0)) (le _ (wb 0)) (le' _ (wa 0)))
          ∙ sym (laws.join_associative (e (a 1)) (e' (a 0)) (e (b 0)) (le _ (wa 1)) (le' _ (wa 0)) (le _ (wb 0)))
      more (suc g) =
          let plain = ap e (shifted.more (suc g)) ∙ laws.extension_of_join s m (a (suc (suc g))) (b (suc g)) (wa _) (wb _) in
          let marked = ap e' (shifted.more g) ∙ laws.extension_of_join s (bit_or m class) (a (suc g)) (b g) (wa _) (wb _) in
          ap (λ z. join z (e' (r (suc g)))) plain ∙ ap (λ z. join (join (e (a (suc (suc g)))) (e (b (suc g)))) z) marked
          ∙ join_crosswise laws (e (a (suc (suc g)))) (e (b (suc g))) (e' (a (suc g))) (e' (b g)) (le _ (wa _)) (le _ (wb _)) (le' _ (wa _)) (le' _ (wb _))

  run_shifted : (ss : List Step) (ms : List ℕ) (r a b : Numbered) → Wide w a → Wide w b → Shifted r a b → Shifted (run_rows ss ms r) (run_rows ss ms a) (run_rows ss ms b)
  run_shifted [] ms r a b wa wb shifted = shifted
  run_shifted (s ∷ ss) [] r a b wa wb shifted = run_shifted ss [] _ _ _ (next_wide s 0 a wa) (next_wide s 0 b wb) (next_shifted s 0 r a b wa wb shifted)
  run_shifted (s ∷ ss) (m ∷ ms) r a b wa wb shifted = run_shifted ss ms _ _ _ (next_wide s m a wa) (next_wide s m b wb) (next_shifted s m r a b wa wb shifted)

  -- one step more: the days without the class on it, and those with it
  days-more : (s : Step) (m : ℕ) (ss : List Step) (ms x : List ℕ) → length x ≡ w
      → ((k : ℕ) → verdict (run_rows ss ms (λ _. ext s m x) k) ≡ accepted ext verdict class ss ms (ext s m x) k)
      → ((k : ℕ) → verdict (run_rows ss ms (λ _. ext s (bit_or m class) x) k) ≡ accepted ext verdict class ss ms (ext s (bit_or m class) x) k)
      → (g : ℕ) → verdict (run_rows ss ms (next_row ext join class s m (λ _. x)) g) ≡ accepted ext verdict class (s ∷ ss) (m ∷ ms) x g
  days-more s m ss ms x long without with_it = at_number
    where
      la : length (ext s m x) ≡ w
      la = laws.extension_width s m x long

      lb : length (ext s (bit_or m class) x) ≡ w
      lb = laws.extension_width s (bit_or m class) x long

      shifted : Shifted (run_rows ss ms (next_row ext join class s m (λ _. x))) (run_rows ss ms (λ _. ext s m x)) (run_rows ss ms (λ _. ext s (bit_or m class) x))
      shifted = run_shifted ss ms _ _ _ (λ k. la) (λ k. lb) (record { first = refl; more = λ k. refl })

      p : List ℕ → Bool
      p d = verdict (run ext (s ∷ ss) d x)

      at_number : (g : ℕ) → verdict (run_rows ss ms (next_row ext join class s m (λ _. x)) g) ≡ accepted ext verdict class (s ∷ ss) (m ∷ ms) x g
      at_number zero = ap verdict shifted.first ∙ without 0 ∙ sym (every_map p (λ d. m ∷ d) (days class 0 ms))
      at_number (suc g) =
          ap verdict (shifted.more g)
          ∙ laws.verdict_of_join _ _ (run_wide ss ms _ (λ k. la) (suc g)) (run_wide ss ms _ (λ k. lb) g)
          ∙ ap (λ b. b && verdict (run_rows ss ms (λ _. ext s (bit_or m class) x) g)) (without (suc g) ∙ sym (every_map p (λ d. m ∷ d) (days class (suc g) ms)))
          ∙ ap (λ b. every p (map (λ d. m ∷ d) (days class (suc g) ms)) && b) (with_it g ∙ sym (every_map p (λ d. bit_or m class ∷ d) (days class g ms)))
          ∙ sym (every_append p (map (λ d. m ∷ d) (days class (suc g) ms)) (map (λ d. bit_or m class ∷ d) (days class g ms)))

  -- from rows that are all alike
  run_accepted : (ss : List Step) (ms x : List ℕ) → length ms ≡ length ss → length x ≡ w → (g : ℕ)
      → verdict (run_rows ss ms (λ _. x) g) ≡ accepted ext verdict class ss ms x g
  run_accepted [] [] x same long g = and_true (verdict x)
  run_accepted [] (m ∷ ms) x same long g = absurd (omega arith)
  run_accepted (s ∷ ss) [] x same long g = absurd (omega arith)
  run_accepted (s ∷ ss) (m ∷ ms) x same long g =
      days-more s m ss ms x long
      (run_accepted ss ms (ext s m x) (omega arith) (laws.extension_width s m x long))
      (run_accepted ss ms (ext s (bit_or m class) x) (omega arith) (laws.extension_width s (bit_or m class) x long)) g

  module _ (most : ℕ) where
    sized_next : (s : Step) (m : ℕ) (x : List ℕ) → length x ≡ suc most * w → Sized w (suc most) (next_row ext join class s m (row_at w x))
    sized_next s m x long = next_row_sized laws class (suc most) s m (row_at w x) (length-row_at w (suc most) x long)

    length_next : (s : Step) (m : ℕ) (x : List ℕ) → length x ≡ suc most * w → length (layered_extension class most w ext join s m x) ≡ suc most * w
    length_next s m x long = length-rows w (suc most) _ (sized_next s m x long)

    row_at_next : (s : Step) (m : ℕ) (x : List ℕ) (f : Numbered) → length x ≡ suc most * w → ((g : ℕ) → g < suc most → row_at w x g ≡ f g)
        → (g : ℕ) → g < suc most → row_at w (layered_extension class most w ext join s m x) g ≡ next_row ext join class s m f g
    row_at_next s m x f long same g h = row_at-rows w (suc most) _ (sized_next s m x long) g h ∙ next_row_same laws class (suc most) s m (row_at w x) f same g h

    -- the rows of the row that the layer's extension makes of a row
    row_at_run : (ss : List Step) (ms x : List ℕ) (f : Numbered) → length x ≡ suc most * w → Wide w f → ((g : ℕ) → g < suc most → row_at w x g ≡ f g)
        → (g : ℕ) → g < suc most → row_at w (run (layered_extension class most w ext join) ss ms x) g ≡ run_rows ss ms f g
    row_at_run [] ms x f long wide same = same
    row_at_run (s ∷ ss) [] x f long wide same = row_at_run ss [] _ _ (length_next s 0 x long) (next_wide s 0 f wide) (row_at_next s 0 x f long same)
    row_at_run (s ∷ ss) (m ∷ ms) x f long wide same = row_at_run ss ms _ _ (length_next s m x long) (next_wide s m f wide) (row_at_next s m x f long same)

    -- the verdict below on row number g, after a route that began with rows all alike
    pub verdict_of_run : (ss : List Step) (ms x : List ℕ) → length ms ≡ length ss → length x ≡ w → (g : ℕ) → g < suc most
        → verdict (row_at w (run (layered_extension class most w ext join) ss ms (rows (suc most) (λ k. x))) g) ≡ accepted ext verdict class ss ms x g
    verdict_of_run ss ms x same long g h =
        ap verdict (row_at_run ss ms (rows (suc most) (λ k. x)) (λ k. x) (length-rows w (suc most) (λ k. x) (λ k l. long)) (λ k. long) (row_at-rows w (suc most) (λ k. x) (λ k l. long)) g h)
        ∙ run_accepted ss ms x same long g
