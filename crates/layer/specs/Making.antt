-- What the making of a layer asks of its class and budget. Assumes nothing.
use Rattle.std.specs.Prelude.{ℕ, Bool, cond, Some, None, Option, ◌==◌, count_ones, nat_le}
use Rattle.resource.specs.declared.refusal.Refusal.{Refusal}
use Rattle.resource.specs.declared.refusal.Refusal.TheVariants.{BudgetTooGreat, ClassNotOneBit}

-- a class is one bit of a byte
abbrev pub one_bit : ℕ → Bool
one_bit class = count_ones class == 1

-- the greatest budget
abbrev pub greatest : ℕ
greatest = 8

-- what is refused: first a budget that is too great, then a class that is not one bit
abbrev pub making : ℕ → ℕ → Option Refusal
making class budget = cond (nat_le budget greatest) (cond (one_bit class) None (Some ClassNotOneBit)) (Some BudgetTooGreat)
