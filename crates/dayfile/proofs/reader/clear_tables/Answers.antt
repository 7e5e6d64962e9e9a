use Rattle.std.proofs.Common.{◌≡◌, ℕ, List, replicate, ◌∙◌, arith, rules}
use Rattle.records.specs.declared.Leg.{Leg}
use Rattle.records.specs.Records.{no_leg}
use Rattle.dayfile.proofs.reader.clear_tables.Goals as goal

filled : (ls : List Leg) (n : ℕ) (l : Leg) → ls ≡ replicate n l → n ≡ 1681 → l ≡ no_leg → ls ≡ replicate 1681 no_leg
filled ls n l all size none = all ∙ (λ i. replicate (size i) (none i))

pub returns-clause-legs : goal.returns-clause-legs
returns-clause-legs c = filled _ _ _ (c.fill-2.ensures.after (λ y e. e)) (omega arith) (search rules)
