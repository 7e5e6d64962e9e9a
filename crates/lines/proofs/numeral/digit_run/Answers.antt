use Rattle.std.proofs.Common.{◌≡◌, true, false, sym, refl, ◌∙◌, rules}
use Rattle.std.proofs.lemmas.Iterator.{YieldsList-from_slice, IsFirst-from_position, index_from_first}
use borrow.Author.Tests.{tests}
use Rattle.std.specs.Char.{is_ascii_digit}
use Rattle.lines.specs.Numerals.{digit_run}
use Rattle.lines.proofs.Digits.{digit_run_here, digit_run_next}
use Rattle.lines.proofs.numeral.digit_run.Goals as goal

pub returns-clause-value : goal.returns-clause-value
returns-clause-value c =
    c.unwrap_or.ensures ∙ sym (index_from_first digit_run (λ b. is_ascii_digit b ≡ false) (λ b. is_ascii_digit b ≡ true) refl digit_run_here digit_run_next c.args.text.now c.position.result
    (IsFirst-from_position _ _ _ (λ b. is_ascii_digit b ≡ false) (λ b. is_ascii_digit b ≡ true) c.position.ensures.ran (YieldsList-from_slice c.args.text.now cc) (λ x q k. search (rules, tests)) (λ x q k. search (rules, tests))))
