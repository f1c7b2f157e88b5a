use Rattle.ffv1_rice.proofs.RowCodes.{rows_one}
use Rattle.ffv1_rice.proofs.laws.bits_begin_with_one_row.Goals as goal

pub returns : goal.returns
returns c = λ depth coder ps qs rest others some small alike folded folded' is.
    rows_one depth coder ps qs rest others some small alike folded folded' is
