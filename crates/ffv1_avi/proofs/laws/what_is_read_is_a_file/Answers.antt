-- What is read is a file of that head and those frames, by its chunks.
use Rattle.ffv1_avi.proofs.FileLaws.{file_sound}
use Rattle.ffv1_avi.proofs.laws.what_is_read_is_a_file.Goals as goal

pub returns : goal.returns
returns c = λ file head frames rest read. file_sound file ((head, frames), rest) read
