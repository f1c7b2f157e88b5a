-- Of a beginning of a file whose Segment's size is known, up to the end of the Segment, some of the
-- first frames are given, one by one, and then more bytes are wanted.
use Rattle.ffv1_matroska.proofs.BeginningLaws.{file_cut_any, file_cut_known, stops_early}
use Rattle.ffv1_matroska.proofs.laws.shorter_file_gives_first_frames.Goals as goal

pub returns : goal.returns
returns c = record { known = file_cut_known; unknown = file_cut_any; early = stops_early }
