-- What a call that makes a resource of one figure answers. Assumes nothing.
use Rattle.std.specs.Prelude.{ℕ, cond, Ok, Err, Result, nat_le}
use Rattle.resource.specs.declared.refusal.Refusal.{Refusal}
use Rattle.resource.specs.declared.refusal.Refusal.TheVariants.{FigureTooGreat}

-- is the figure within its most?
abbrev pub figure_answer : ℕ → ℕ → Result ℕ Refusal
figure_answer most figure = cond (nat_le figure most) (Ok figure) (Err FigureTooGreat)

-- the figure of what was made
abbrev pub figure_made : {X : Type 0} → (X → ℕ) → Result X Refusal → Result ℕ Refusal
figure_made figure (Ok x) = Ok (figure x)
figure_made figure (Err e) = Err e
