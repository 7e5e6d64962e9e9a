use Rattle.std.proofs.Common.{◌++◌, take, ap, ◌∙◌, ◌*◌, bit_or}
use Rattle.std.proofs.lemmas.List.{take_rest}
use Rattle.layered.specs.Layered.{row_at, rows}
use Rattle.layered.proofs.Choosing.{put_rest}
use Rattle.layered.proofs.Numbers.{lower_added}
use Rattle.layer.proofs.rows.Rows.add_marked.Goals as goal

pub returns : goal.returns
returns g c =
    let l = c.args.self.now.layer.now in
    let w = c.args.self.now.wide in
    let n = l.budget in
    let onto = c.args.onto.now in
    let join = g.B.Resource.join l.below in
    let ext = g.B.Resource.extension l.below c.args.step.now (bit_or c.args.marks l.class) in
    let added = c.extend_each_onto.ensures in
    put_rest w onto c.extend_each_onto.new.onto
    ∙ ap (λ z. take w onto ++ z) (added ∙ ap (λ x. rows n (λ k. join (row_at w x k) (ext (row_at w (take (n * w) c.args.from.now) k)))) (take_rest onto w))
    ∙ lower_added w n join ext c.args.from.now onto
