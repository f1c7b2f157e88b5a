-- Each line of Golomb-Rice coded samples has at least one bit.
use Rattle.std.proofs.Common.{◌%◌}
use Rattle.ffv1_frame.proofs.lemmas.laws.decoding.SlicesMade.{column_inside}
use Rattle.ffv1_frame.proofs.lemmas.laws.rice.LineBits.{few_lines}
use Rattle.ffv1_frame.proofs.laws.rice.each_line_has_a_bit.Goals as goal

pub returns : goal.returns
returns c = λ a coded n q read is rice inside known.
    let conf = a.configuration in
    let sides = c.planes_are_divided_part_by_part.ensures conf a.table is in
    few_lines c.place_takes_few_bits.ensures.some a coded n q read
    (λ p. (sides.columns_tile p).some (n % conf.columns) (column_inside n conf.columns sides.columns))
    (known.bits.rice rice)
