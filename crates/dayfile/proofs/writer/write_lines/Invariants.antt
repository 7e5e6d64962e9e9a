use Rattle.std.specs.List.{flat_map}
use Rattle.records.proofs.Writing.{Sofar}
use Rattle.lines.specs.Forms.{line_text}
use Rattle.dayfile.specs.Days.{day_text}
use Rattle.dayfile.specs.Lent.{day_in, lines_left}
use Rattle.dayfile.proofs.writer.write_lines.Given as goal

abbrev pub invariant-loop-line : goal.invariant-loop-line
invariant-loop-line l =
    (goal.iterator-loop-line).can_next l.line-iterator × (goal.iterator-loop-line).is_finite l.line-iterator × Sofar (day_text (day_in l.day)) l.initial.buffer l.buffer (flat_map line_text (lines_left l.line-iterator)) l.at
