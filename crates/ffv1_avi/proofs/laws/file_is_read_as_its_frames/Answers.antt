-- A file of a head and frames, by its chunks, is read as that head and those frames, and it has no
-- others.
use Rattle.ffv1_avi.proofs.EveryRiffLaws.{every_complete, every_only, every_then, then_only}
use Rattle.ffv1_avi.proofs.FileLaws.{file_complete, file_only}
use Rattle.ffv1_avi.proofs.laws.file_is_read_as_its_frames.Goals as goal

pub returns : goal.returns
returns c = record {
  read = λ file head frames is. file_complete file head frames is;
  only =
      file_only;
  every = every_complete;
  every_then = every_then;
  every_only = every_only;
  then_only = then_only;
}
