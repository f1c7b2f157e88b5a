-- What is read is a file of that head and those frames, by its elements, and what is left is what
-- comes after its Segment.
use Rattle.ffv1_matroska.proofs.ReadFiles.{file_sound}
use Rattle.ffv1_matroska.proofs.laws.what_is_read_is_a_file.Goals as goal

pub returns : goal.returns
returns c = file_sound
