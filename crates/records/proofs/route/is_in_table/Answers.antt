use Rattle.std.proofs.Common.{◌≡◌, true, false, refl, rules}
use Rattle.std.proofs.lemmas.Iterator.{YieldsList-from_slice, cases_from_all}
use Rattle.std.specs.Prelude.{nat_le}
use borrow.Author.Tests.{tests}
use Rattle.records.specs.Steps.{in_table}
use Rattle.records.proofs.Checks.{all_from_search}
use Rattle.records.proofs.route.is_in_table.Goals as goal

pub returns : goal.returns
returns c =
    all_from_search (λ k. nat_le k 40) in_table refl (λ k ks. refl) c.args.route.now c.all.result
    (cases_from_all _ _ _ (λ k. nat_le k 40 ≡ true) (λ k. nat_le k 40 ≡ false) c.all.ensures.ran (YieldsList-from_slice c.args.route.now cc) (λ x q k. search (rules, tests)) (λ x q k. search (rules, tests)))
