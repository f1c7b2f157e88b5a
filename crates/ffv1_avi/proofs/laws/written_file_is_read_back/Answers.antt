-- What is written is a file of its head and frames, by its chunks, of one RIFF, and is read back,
-- if the first `movi` alone is read and if every RIFF is.
use Rattle.std.proofs.Common.{◌∙◌}
use Rattle.ffv1_avi.proofs.EveryRiffLaws.{every_complete}
use Rattle.ffv1_avi.proofs.FileLaws.{file_complete}
use Rattle.ffv1_avi.proofs.WrittenLaws.{written_file, written_rest}
use Rattle.ffv1_avi.proofs.WrittenRiffs.{written_riff}
use Rattle.ffv1_reads.specs.Head.{without_colour}
use Rattle.ffv1_avi.specs.Written.{file_of}
use Rattle.ffv1_avi.proofs.laws.written_file_is_read_back.Goals as goal

pub returns : goal.returns
returns c = record {
  file = written_file;
  read = λ head frames is. file_complete
      (file_of head frames) (without_colour head) frames (written_file head frames is) ∙ written_rest head frames is;
  riff = written_riff;
  every = λ head frames is. every_complete (file_of head frames) (without_colour head) frames
      (written_riff head frames is);
}
