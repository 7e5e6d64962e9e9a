use Rattle.std.proofs.Common.{◌≡◌, ◌+◌, ◌-◌, ◌≤◌, length, is_some, sym, ap, ◌∙◌, subst, arith}
use borrow.Rule.Slice.PartMut.{put_mid}
use Rattle.std.proofs.lemmas.Bool.{cond-true}
use Rattle.std.specs.List.{flat_map}
use Rattle.records.proofs.Writing.{Sofar}
use Rattle.lines.specs.Forms.{line_text}
use Rattle.dayfile.specs.Days.{day_text}
use Rattle.dayfile.specs.Lent.{CanStep, at_first, day_in, lines_left}
use Rattle.dayfile.proofs.Writing.{none_written, line_fits, line_written, has_room, tail_written}
use Rattle.dayfile.proofs.writer.write_lines.Goals as goal
use Rattle.dayfile.proofs.writer.write_lines.Goals.{In-Some}

pub loop-line-init : goal.loop-line-init
loop-line-init c =
    let start : c.into_iter-line-iterator.result ≡ at_first c.args.day = cc in (
      subst CanStep (sym start) (record { place = tt; few = c.requires.0.count }),
      tt,
      subst (λ s. Sofar (day_text (day_in c.args.day)) c.args.buffer.now c.args.buffer.now (flat_map line_text (lines_left s)) 0) (sym start) (none_written _ _),
    )

room : (c : In-Some) → c.loop-line.at + length (line_text c.in-Some.line) ≤ length c.loop-line.buffer
room c = line_fits _ _ _ _ _ c.loop-line.invariant.2 c.requires.0 (omega arith) _ _ c.in-Some.ensures.steps

pub unwrap-at-requires : goal.unwrap-at-requires
unwrap-at-requires c =
    ap is_some (c.write_line.ensures.room ∙ cond-true _ _ _ (has_room c.loop-line.buffer (line_text c.in-Some.line) c.loop-line.at (room (goal.at.unwrap-at-requires c).In-Some)))

pub loop-line-preserved : goal.loop-line-preserved
loop-line-preserved c =
    let inside = room (goal.at.loop-line-preserved c).In-Some in
    let some = c.write_line.ensures.room ∙ cond-true _ _ _ (has_room c.loop-line.buffer (line_text c.in-Some.line) c.loop-line.at inside) in
    let size : c.unwrap-at.result ≡ length (line_text c.in-Some.line) = cc in (
      c.in-Some.ensures.goes.keeps,
      tt,
      subst (λ n. Sofar (day_text (day_in c.args.day)) c.args.buffer.now (put_mid c.loop-line.at (length c.loop-line.buffer - c.loop-line.at) c.loop-line.buffer c.write_line.new.out) (flat_map line_text (lines_left c.next.new.self)) (c.loop-line.at + n)) (sym size)
          (line_written _ _ _ _ _ c.loop-line.invariant.2 c.requires.0 (omega arith) _ _ c.in-Some.ensures.steps _ (tail_written c.loop-line.buffer (line_text c.in-Some.line) c.loop-line.at inside c.write_line.new.out c.write_line.ensures.bytes)),
    )
