-- Steps of the loop that holds a text against a template. Assumes nothing.
use Rattle.std.proofs.Common.{◌≡◌, ℕ, suc, ◌+◌, ◌<◌, List, length, get_or, drop, ap, ◌∙◌}
use Rattle.std.proofs.lemmas.List.{drop_more}
use Rattle.std.proofs.lemmas.Bool.{cond-true, cond-false, eq-eqb, ne_eqb}
use Rattle.lines.specs.Scan.{holes}

module _ (p : List ℕ) (i : ℕ) (h : i < length p) where
  pub holes_at_hole : get_or p i 0 ≡ 35 → holes (drop i p) ≡ suc (holes (drop (i + 1) p))
  holes_at_hole e = ap holes (drop_more p i 0 h) ∙ cond-true _ _ _ (eq-eqb (get_or p i 0) 35 e)

  pub holes_at_byte : (get_or p i 0 ≡ 35 → ⊥) → holes (drop i p) ≡ holes (drop (i + 1) p)
  holes_at_byte e = ap holes (drop_more p i 0 h) ∙ cond-false _ _ _ (ne_eqb (get_or p i 0) 35 e)
