-- How a text is compared with a template, byte by byte: a step on the way to the text of a line. Assumes nothing.
use Rattle.std.specs.Prelude.{ℕ, suc, cond, List, [], ◌∷◌, ◌++◌, Some, None, Option, ◌==◌}
use Rattle.std.specs.Option.{option_and_then}
use Rattle.lines.specs.Numerals.{number_at}

-- how many numbers a template asks for
abbrev pub holes : List ℕ → ℕ
holes [] = 0
holes (c ∷ p) = cond (c == 35) (suc (holes p)) (holes p)

-- the text after a byte that it is to begin with
abbrev pub after_byte : ℕ → List ℕ → Option (List ℕ)
after_byte c [] = None
after_byte c (b ∷ t) = cond (b == c) (Some t) None

-- The numbers that a text has in the places of a template, after the numbers ns that were read before it, and what stands
-- after it; none where the text does not begin as the template does.
abbrev pub scanned : List ℕ → List ℕ → List ℕ → Option (List ℕ × List ℕ)
scanned [] ns t = Some (ns, t)
scanned (c ∷ p) ns t =
    cond (c == 35)
    (option_and_then (λ found. scanned p (ns ++ found.0 ∷ []) found.1) (number_at t))
    (option_and_then (scanned p ns) (after_byte c t))
