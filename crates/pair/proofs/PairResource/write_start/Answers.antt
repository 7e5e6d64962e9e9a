use Rattle.std.proofs.Common.{sym, ◌∙◌, eq-eqb}
use Rattle.resource.proofs.Runs.{row_granted}
use Rattle.pair.proofs.Calls.{split_tells, second_narrow, rest_wide, pair_granted, row_is}
use Rattle.pair.proofs.PairResource.write_start.Goals as goal

pub returns : goal.returns
returns g c =
    let b = g.Second.Resource.width c.args.self.now.second in
    let old = c.args.into.now in
    let front = c.write_start.new.into in
    let split = split_tells c.in_ok-at.ensures in
    let kept = c.write_start.auto.into in
    let granted = c.write_start-2.ensures.answer ∙ row_granted b _ tt (second_narrow split) (eq-eqb _ b (rest_wide old front split kept)) in
    record {
      answer = granted ∙ sym (pair_granted old tt split);
      row = row_is old front split kept _ _ _ _ granted c.in_ok-write_start.ensures.row c.write_start-2.ensures.row;
    }
