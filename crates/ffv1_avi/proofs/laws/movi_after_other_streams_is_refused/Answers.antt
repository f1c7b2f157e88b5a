-- If every RIFF is read, and `movi` comes when none of the first 100 streams is FFV1 video, the
-- file has no FFV1, and nothing after the name of `movi` is read.
use Rattle.ffv1_avi.proofs.RiffRefusals.{every_no_stream}
use Rattle.ffv1_avi.proofs.laws.movi_after_other_streams_is_refused.Goals as goal

pub returns : goal.returns
returns c = every_no_stream
