use Rattle.std.proofs.Common.{◌∙◌}
use Rattle.layered.proofs.FirstDays.{rest_refused, rest_accepted, chose_plain, some_left, chose_marked}
use Rattle.layer.proofs.Answered.{now_written}
use Rattle.layer.proofs.rows.Rows.choose_step.Goals as goal

pub returns-then-refuses : goal.returns-then-refuses
returns-then-refuses g c =
    let l = c.args.self.now.layer.now in
    let e = g.B.Resource.extension l.below in
    let v = g.B.Resource.verdict l.below in
    let on = c.copy_from_slice.ensures.after in
    let test = c.refuses.ensures in
    let refused = rest_refused e v l.class c.args.steps.now c.args.marks.now c.extend.new.into c.args.left _ test c.if-refuses.true in
    chose_plain e v l.class c.args.steps.now c.args.marks.now c.args.row.now c.args.left _ c.copy_from_slice.new.self c.requires.some c.requires.marks
    (on ∙ now_written _ _ _ _ _ c.unwrap.ensures c.extend.ensures.row) (rw on refused)

pub overflow_sub-result : goal.overflow_sub-result
overflow_sub-result g c =
    let l = c.args.self.now.layer.now in
    let e = g.B.Resource.extension l.below in
    let v = g.B.Resource.verdict l.below in
    let test = c.refuses.ensures in
    let free = rest_accepted e v l.class c.args.steps.now c.args.marks.now c.extend.new.into c.args.left _ test c.if-refuses.false in
    some_left e v l.class c.args.steps.now c.args.marks.now c.args.row.now c.args.left _ c.extend.new.into
    (record { some = c.requires.some; same = c.requires.marks; refused = c.requires.refused; unmarked = now_written _ _ _ _ _ c.unwrap.ensures c.extend.ensures.row; free = free })

pub returns : goal.returns
returns g c =
    let l = c.args.self.now.layer.now in
    let e = g.B.Resource.extension l.below in
    let v = g.B.Resource.verdict l.below in
    let test = c.refuses.ensures in
    let free = rest_accepted e v l.class c.args.steps.now c.args.marks.now c.extend.new.into c.args.left _ test c.if-refuses.false in
    chose_marked e v l.class c.args.steps.now c.args.marks.now c.args.row.now c.args.left _ c.extend.new.into
    (record { some = c.requires.some; same = c.requires.marks; refused = c.requires.refused; unmarked = now_written _ _ _ _ _ c.unwrap.ensures c.extend.ensures.row; free = free })
    c.copy_from_slice-2.new.self (c.copy_from_slice-2.ensures.after ∙ now_written _ _ _ _ _ c.unwrap-2.ensures c.extend-2.ensures.row)
