-- How many milliseconds the frames last that a header of video says.
use Rattle.std.proofs.Common.{length-drop, arith}
use Rattle.ffv1_outline.proofs.avi_outline.video_lasts.Goals as goal

pub read_u32-frames-requires : goal.read_u32-frames-requires
read_u32-frames-requires c = rw (c.after.ensures, length-drop) (omega arith)
