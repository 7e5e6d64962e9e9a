use Rattle.std.proofs.Common.{◌≡◌, drop}
use Rattle.lines.specs.Numerals.{read_on}
use Rattle.lines.proofs.numeral.value.Given as goal

abbrev pub invariant-loop-b : goal.invariant-loop-b
invariant-loop-b l = read_on l.n (drop l.b-index l.digits) ≡ read_on 0 l.digits
