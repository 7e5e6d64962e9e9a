-- What the making of the product's layers refuses: their classes are one bit each. Assumes nothing.
use Rattle.std.proofs.Common.{◌≡◌, ℕ, cond, leb, Some, None, Ok, refl, ◌∙◌, ⊎_elim, arith}
use lib.Count.{ones}
use Rattle.resource.specs.declared.refusal.Refusal.TheVariants.{BudgetTooGreat}
use Rattle.std.proofs.lemmas.Bool.{cases_Bool, cond-true, cond-false}
use Rattle.resource.specs.Making.{figure_answer}
use Rattle.layer.specs.Making.{making}

pub demand_budget : (b : ℕ) → making 4 b ≡ cond (leb b 8) None (Some BudgetTooGreat)
unfolding ones
demand_budget b = refl

pub serve_budget : (b : ℕ) → making 2 b ≡ cond (leb b 8) None (Some BudgetTooGreat)
unfolding ones
serve_budget b = refl

pub travel_budget : (b : ℕ) → making 1 b ≡ cond (leb b 8) None (Some BudgetTooGreat)
unfolding ones
travel_budget b = refl

-- what was made has the figure that was asked for
pub the_figure : (most n x : ℕ) → Ok x ≡ figure_answer most n → x ≡ n
the_figure most n x e =
    ⊎_elim
    (λ y. let f = e ∙ cond-true _ _ _ y in let same : x ≡ n = cc in same)
    (λ y. let f = e ∙ cond-false _ _ _ y in let z : ◌≡◌ {A = ℕ} 0 1 = cc in absurd (omega arith))
    (cases_Bool (leb n most))
