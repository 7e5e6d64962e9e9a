use Rattle.std.proofs.Common.{◌≡◌, ◌∷◌, refl, ap, ◌∙◌, arith, length-append}
use Rattle.std.specs.Slice.Iter.{iter_rest}
use Rattle.lines.proofs.Filling.{number_filled, byte_filled, has_room}
use Rattle.lines.proofs.line.Form.filled.Goals as goal
use Rattle.lines.proofs.line.Form.filled.Goals.{then-c-eq-HOLE, else-c-eq-HOLE}

pub unwrap-requires : goal.unwrap-requires
unwrap-requires c =
    let next : iter_rest c.loop-c.left ≡ c.unwrap-n.result.now ∷ iter_rest c.next.new.self = rw c.unwrap-n.ensures at c.next.ensures.steps in
    let more = number_filled _ _ _ _ _ c.loop-c.invariant c.loop-c-test.true _ _ _ c.as_bytes.result.now c.if-c-eq-HOLE.true next (c.as_bytes.ensures.value ∙ c.format.ensures.text) refl in
    let room = simp length-append at (has_room _ _ _ _ _ more c.args.self c.template-template.ensures (λ k. omega (arith, c.type_inv.numbers k))) in
    c.try_extend_from_slice.ensures.variant.1 room

pub push-requires : goal.push-requires
push-requires c =
    let more = byte_filled _ _ _ _ _ c.loop-c.invariant c.loop-c-test.true _ c.if-c-eq-HOLE.false refl in
    let room = simp length-append at (has_room _ _ _ _ _ more c.args.self c.template-template.ensures (λ k. omega (arith, c.type_inv.numbers k))) in
    omega arith

pub loop-c-preserved : goal.loop-c-preserved
loop-c-preserved c = elim c.if-c-eq-HOLE.branch [
  | then-c-eq-HOLE w ↦
      let next : iter_rest c.loop-c.left ≡ w.unwrap-n.result.now ∷ iter_rest w.next.new.self = rw w.unwrap-n.ensures at w.next.ensures.steps in
      let all = rw w.unwrap.ensures at w.try_extend_from_slice.ensures.ok in
      rw w.left-is (number_filled _ _ _ _ _ c.loop-c.invariant c.loop-c-test.true _ _ _ _ w.if-c-eq-HOLE.true next (w.as_bytes.ensures.value ∙ w.format.ensures.text) (ap (λ v. v.items) w.text-is ∙ all))
  | else-c-eq-HOLE w ↦ rw w.left-is (byte_filled _ _ _ _ _ c.loop-c.invariant c.loop-c-test.true _ w.if-c-eq-HOLE.false (ap (λ v. v.items) w.text-is ∙ w.push.ensures.items))
]
