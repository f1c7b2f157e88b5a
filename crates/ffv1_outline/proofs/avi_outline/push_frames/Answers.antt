-- Appends how many frames a header of video says.
use Rattle.std.proofs.Common.{length-drop, arith}
use Rattle.ffv1_outline.proofs.avi_outline.push_frames.Goals as goal

pub read_u32-requires : goal.read_u32-requires
read_u32-requires g c = rw (c.after.ensures, length-drop) (omega arith)
