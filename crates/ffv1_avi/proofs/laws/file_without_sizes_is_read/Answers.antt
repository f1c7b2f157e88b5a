-- A file of a head and frames, by its chunks, of which an RIFF, or the first movi, has no size, is
-- read to its end as that head and those frames.
use Rattle.ffv1_avi.proofs.OpenFileLaws.{open_file_only, open_file_read, open_file_sized}
use Rattle.ffv1_avi.proofs.laws.file_without_sizes_is_read.Goals as goal

pub returns : goal.returns
returns c = record { read = open_file_read; only = open_file_only; sized = open_file_sized }
