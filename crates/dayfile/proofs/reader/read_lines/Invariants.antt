use Rattle.std.proofs.Common.{◌+◌, ◌≤◌, length}
use Rattle.dayfile.specs.Storing.{day_of}
use Rattle.dayfile.proofs.Outcomes.{Reading}
use Rattle.dayfile.proofs.reader.read_lines.Given as goal

abbrev pub invariant-loop-due : goal.invariant-loop-due
invariant-loop-due l =
    Reading l.text l.due (day_of l.head l.stops l.legs) l.rest l.number × (l.number + length l.rest ≤ length l.text + 1)

abbrev pub decreases-loop-due : goal.decreases-loop-due
decreases-loop-due l = length l.rest
