use Rattle.std.proofs.Common.{◌≡◌, true, false, leb, refl, rules}
use Rattle.std.proofs.lemmas.Iterator.{YieldsList-from_slice, cases_from_all}
use borrow.Author.Tests.{tests}
use Rattle.records.proofs.Checks.{all_from_search}
use Rattle.resource.specs.Words.{ceiling, sound}
use Rattle.resource.proofs.rows.is_sound.Goals as goal

pub returns : goal.returns
returns c =
    all_from_search (λ w. leb w ceiling) sound refl (λ w ws. refl) c.args.row.now c.all.result
    (cases_from_all _ _ _ (λ w. leb w ceiling ≡ true) (λ w. leb w ceiling ≡ false) c.all.ensures.ran (YieldsList-from_slice c.args.row.now cc) (λ x q k. search (rules, tests)) (λ x q k. search (rules, tests)))
