use Rattle.std.proofs.Common.{◌≡◌, length, is_some, ap, arith}
use Rattle.dayfile.proofs.reader.read.Goals as goal

pub returns : goal.returns
returns c =
    let stops : length c.args.stops.now ≡ 41 = c.as_mut_array.ensures.variant.0 (ap is_some c.in_ok-stops.ensures.ok_part) in
    let legs : length c.args.legs.now ≡ 1681 = c.as_mut_array-2.ensures.variant.0 (ap is_some c.in_ok-legs.ensures.ok_part) in
    record {
      too_long = λ long. absurd (omega arith);
      other_tables = λ short other. absurd (other (stops, legs));
      answered = λ short sized. c.read_text.ensures;
    }
