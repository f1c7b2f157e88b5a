-- A row takes few bits.
use Rattle.ffv1_rice.proofs.RowLength.{row_few}
use Rattle.ffv1_rice.proofs.laws.row_takes_few_bits.Goals as goal

pub returns : goal.returns
returns c = λ depth contexts coder ps some few none index short inside states.
    row_few depth contexts coder ps some few none index short inside states
