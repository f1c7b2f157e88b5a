-- When `movi` comes after no stream, the file has no FFV1, and nothing after the name of `movi` is
-- read.
use Rattle.ffv1_avi.proofs.RefusalLaws.{no_stream}
use Rattle.ffv1_avi.proofs.laws.movi_before_streams_is_refused.Goals as goal

pub returns : goal.returns
returns c = no_stream
