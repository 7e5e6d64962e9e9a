-- Numbers as a day file writes them: base ten, no leading zero but in 0 itself, at most six digits. Assumes nothing.
use Rattle.std.specs.Prelude.{ℕ, suc, ◌+◌, ◌-◌, ◌*◌, Bool, cond, not, ◌&&◌, ◌||◌, List, [], ◌∷◌, length, take, drop, Some, None, Option, ◌==◌, nat_le, slice_index}
use Rattle.std.specs.Char.{is_ascii_digit}

-- the number that digits write, after the number n that stands before them
abbrev pub read_on : ℕ → List ℕ → ℕ
read_on n [] = n
read_on n (c ∷ cs) = read_on (10 * n + (c - 48)) cs

-- how many digits a text begins with
abbrev pub digit_run : List ℕ → ℕ
digit_run [] = 0
digit_run (c ∷ cs) = cond (is_ascii_digit c) (suc (digit_run cs)) 0

-- one to six digits, with no leading zero unless it is the only digit
abbrev pub in_form : List ℕ → Bool
in_form ds = (nat_le 1 (length ds) && nat_le (length ds) 6) && (length ds == 1 || not (slice_index ds 0 == 48))

-- the number that a text begins with, and what stands after it
abbrev pub number_at : List ℕ → Option (ℕ × List ℕ)
number_at t = cond (in_form (take (digit_run t) t)) (Some (read_on 0 (take (digit_run t) t), drop (digit_run t) t)) None
