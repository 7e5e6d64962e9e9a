use Rattle.std.proofs.Common.{◌≡◌, ◌+◌, [], length, drop}
use Rattle.lines.specs.Scan.{holes, scanned}
use Rattle.lines.proofs.scan.scan.Given as goal

abbrev pub invariant-loop-c : goal.invariant-loop-c
invariant-loop-c l =
    (length l.numbers.items + holes (drop l.c-index l.template) ≡ holes l.template) × (scanned (drop l.c-index l.template) l.numbers.items l.rest ≡ scanned l.template [] l.text)
