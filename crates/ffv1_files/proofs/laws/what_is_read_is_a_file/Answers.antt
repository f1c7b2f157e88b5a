-- What is read is a file of that head and those frames: up to the end of the first `movi` an AVI by
-- its chunks, after which this is left; and all of it an AVI by the chunks of every RIFF, after
-- which no other file begins, or a Matroska file by its elements, after whose Segment this is left.
use Rattle.ffv1_files.proofs.FileLaws.{read_first, read_whole}
use Rattle.ffv1_files.proofs.laws.what_is_read_is_a_file.Goals as goal

pub returns-clause-first : goal.returns-clause-first
returns-clause-first c = read_first c.what_is_read_is_a_file.ensures
    c.file_is_read_as_its_frames.ensures.read

pub returns-clause-whole : goal.returns-clause-whole
returns-clause-whole c = read_whole c.every_riff_is_read_whole.ensures
    c.what_is_read_again_is_a_file.ensures
