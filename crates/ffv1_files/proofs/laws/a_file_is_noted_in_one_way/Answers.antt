-- What is noted of a file is told by its bytes, and so is what is left after those that were
-- looked at.
use Rattle.ffv1_files.proofs.NotedOnce.{riffs_once}
use Rattle.ffv1_files.proofs.NotedSegments.{segments_once}
use Rattle.ffv1_files.proofs.laws.a_file_is_noted_in_one_way.Goals as goal

pub returns : goal.returns
returns c = record { avi = riffs_once; matroska = segments_once }
