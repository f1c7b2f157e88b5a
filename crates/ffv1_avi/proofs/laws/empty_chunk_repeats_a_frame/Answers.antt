-- If every RIFF is read, an empty chunk of the stream's frames is a frame of no bytes.
use Rattle.ffv1_avi.proofs.EmptyFrames.{again_read}
use Rattle.ffv1_avi.proofs.laws.empty_chunk_repeats_a_frame.Goals as goal

pub returns : goal.returns
returns c = again_read
