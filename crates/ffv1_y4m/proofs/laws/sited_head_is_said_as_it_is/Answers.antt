-- If depths above 8 are read, a head is said as it is, unless it is one of 4:2:0 of 8 bits that
-- says no siting.
use Rattle.ffv1_y4m.proofs.StrictHeads.{sited_again}
use Rattle.ffv1_y4m.proofs.laws.sited_head_is_said_as_it_is.Goals as goal

pub returns : goal.returns
returns c = sited_again
