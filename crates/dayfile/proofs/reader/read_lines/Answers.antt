use Rattle.std.proofs.Common.{◌≡◌, ◌+◌, ◌<◌, length, replicate, Some, None, Err, Ok, sym, refl, ap, ◌∙◌, subst, arith, length-append, rules}
use Rattle.std.proofs.lemmas.Bool.{eqb-true, eqb-false}
use Rattle.std.specs.Result.{MatchResult}
use Rattle.lines.specs.Forms.{line_text}
use Rattle.lines.specs.Lines.{Parsed}
use Rattle.dayfile.specs.Answers.{LinesRead, refused_line}
use Rattle.records.specs.Records.{no_head, no_stop, no_leg}
use Rattle.dayfile.specs.Storing.{day_of}
use Rattle.dayfile.specs.Expecting.{Passes}
use Rattle.dayfile.specs.declared.expectation.Expectation.TheVariants as due
use Rattle.dayfile.specs.declared.refusal.ReadRefusal.TheVariants as read
use Rattle.dayfile.proofs.Following.{some_bytes}
use Rattle.dayfile.proofs.Outcomes.{Reading, at_start, no_line, refused_by, one_more, goes_on, whole_day}
use Rattle.dayfile.proofs.reader.read_lines.Goals as goal
use Rattle.dayfile.proofs.reader.read_lines.Goals.{In_ok-line, In_ok-due, After-loop-due}

pub loop-due-init : goal.loop-due-init
loop-due-init c =
    let empty : c.default-head.result ≡ no_head = search rules in
    let same : day_of no_head (replicate 41 no_stop) (replicate 1681 no_leg) ≡ day_of c.default-head.result c.args.stops.now c.args.legs.now = λ i. day_of (sym empty i) (sym c.requires.1.0 i) (sym c.requires.1.1 i) in
    (subst (λ d. Reading c.args.text.now due.Day d c.args.text.now 1) same (at_start c.args.text.now), omega arith)

pub returns-in_err-line : goal.returns-in_err-line
returns-in_err-line c =
    let is : c.from_residual.result ≡ Err c.in_err-line.field-0.0 = search rules in
    let some : (c.loop-due.due ≡ due.Nothing → ⊥) = search rules in
    let none : c.parse.result ≡ None = c.in_err-line.ensures.ok_part in
    let told = rw none at c.in_err-line.ensures.value in
    let form : c.in_err-line.field-0.0 ≡ read.Form c.loop-due.number = cc in
    let r = no_line _ _ _ _ _ c.loop-due.invariant.0 some (rw none at c.parse.ensures) in
    subst (λ q. LinesRead c.args.text.now q c.loop-due.stops c.loop-due.legs) (sym (is ∙ ap Err form)) (r.1, r.0)

-- the line that was parsed
parsed : (c : In_ok-line) → Parsed c.loop-due.rest.now (Some (c.in_ok-line.line, c.in_ok-line.after.now))
parsed c = rw c.in_ok-line.ensures.ok_part at c.parse.ensures

pub returns-in_err-due : goal.returns-in_err-due
returns-in_err-due c =
    let is : c.from_residual-in_err-due.result ≡ Err c.in_err-due.field-0.0 = search rules in
    let some : (c.loop-due.due ≡ due.Nothing → ⊥) = search rules in
    let cases : MatchResult c.judge.result (λ q. ⊥) (λ e. c.in_err-due.field-0.0 ≡ refused_line e c.loop-due.number) = search rules in
    subst (λ q. LinesRead c.args.text.now q c.loop-due.stops c.loop-due.legs) (sym is)
    (refused_by _ _ _ _ _ c.loop-due.invariant.0 _ _ (parsed (goal.at.returns-in_err-due c).In_ok-line) some c.judge.result c.judge.ensures c.in_err-due.field-0.0 cases)

passes : (c : In_ok-due) → Passes c.loop-due.due c.in_ok-line.line c.in_ok-due.due
passes c = let is : c.judge.result ≡ Ok c.in_ok-due.due = search rules in rw is at c.judge.ensures

-- a line takes some bytes of what is left
shorter : (c : In_ok-line) → length c.in_ok-line.after.now < length c.loop-due.rest.now
shorter c =
    let size = ap length ((parsed c).sound _ _ refl).1 ∙ length-append (line_text c.in_ok-line.line) c.in_ok-line.after.now in
    omega (arith, some_bytes c.in_ok-line.line)

pub loop-due-smaller : goal.loop-due-smaller
loop-due-smaller c = shorter (goal.at.loop-due-smaller c).In_ok-line

pub loop-due-preserved : goal.loop-due-preserved
loop-due-preserved c =
    let some : (c.loop-due.due ≡ due.Nothing → ⊥) = search rules in (
      subst (λ d. Reading c.args.text.now c.in_ok-due.due d c.in_ok-line.after.now (c.loop-due.number + 1)) (sym c.store.ensures)
          (one_more _ _ _ _ _ c.loop-due.invariant.0 _ _ (parsed (goal.at.loop-due-preserved c).In_ok-line) some _ (passes (goal.at.loop-due-preserved c).In_ok-due)),
      omega (arith, shorter (goal.at.loop-due-preserved c).In_ok-line),
    )

-- all that was due was read
done : (c : After-loop-due) → Reading c.args.text.now due.Nothing (day_of c.loop-due.head c.loop-due.stops c.loop-due.legs) c.loop-due.rest.now c.loop-due.number
done c =
    let all : c.loop-due.due ≡ due.Nothing = search rules in
    subst (λ e. Reading c.args.text.now e (day_of c.loop-due.head c.loop-due.stops c.loop-due.legs) c.loop-due.rest.now c.loop-due.number) all c.loop-due.invariant.0

pub returns-then-is_empty : goal.returns-then-is_empty
returns-then-is_empty c = whole_day _ _ _ _ (done (goal.at.returns-then-is_empty c).After-loop-due) (eqb-true _ 0 (sym c.if-is_empty.ensures))

pub returns-else-is_empty : goal.returns-else-is_empty
returns-else-is_empty c =
    let some = eqb-false _ 0 (sym c.if-is_empty.ensures) in
    let r = goes_on _ _ _ _ (done (goal.at.returns-else-is_empty c).After-loop-due) (omega arith) in
    (r.1, r.0)
