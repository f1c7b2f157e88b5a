-- An AVI that was written is read back, however far.
use Rattle.ffv1_files.proofs.FileLaws.{written_read}
use Rattle.ffv1_files.proofs.laws.written_avi_is_read_back.Goals as goal

pub returns : goal.returns
returns c = written_read c.written_file_is_read_back.ensures.read
    c.written_file_is_read_back.ensures.riff c.written_file_is_read_back.ensures.every
