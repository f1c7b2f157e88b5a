-- Whether a chunk of this name may not stand in movi, whatever size it says.
use Rattle.std.proofs.Common.{refl}
use Rattle.ffv1_avi.proofs.names.bars.Goals as goal

pub returns-in-Any : goal.returns-in-Any
returns-in-Any c = rw c.in-Any.is refl
