use Rattle.std.specs.Slice.Iter.{iter_rest}
use Rattle.lines.proofs.Filling.{Filling}
use Rattle.lines.proofs.line.Form.filled.Given as goal

abbrev pub invariant-loop-c : goal.invariant-loop-c
invariant-loop-c l = Filling l.template l.numbers l.c-index l.text.items (iter_rest l.left)
