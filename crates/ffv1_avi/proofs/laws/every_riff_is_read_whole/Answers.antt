-- If every RIFF is read and the frames come to an end, the input begins with a file of that head
-- and those frames.
use Rattle.ffv1_avi.proofs.WholeLaws.{whole}
use Rattle.ffv1_avi.proofs.laws.every_riff_is_read_whole.Goals as goal

pub returns : goal.returns
returns c = whole
