-- What is read is a file of that head and those frames, by its elements, and what is left is what
-- comes after its Segment.
use Rattle.ffv1_matroska.proofs.AgainLaws.{again_sound}
use Rattle.ffv1_matroska.proofs.again_laws.what_is_read_again_is_a_file.Goals as goal

pub returns : goal.returns
returns c = λ file head frames rest read. again_sound file head frames rest read
