-- No RIFF or movi without size ends an AVI that was written.
use Rattle.ffv1_files.proofs.WrittenNotes.{never_open}
use Rattle.ffv1_files.proofs.laws.written_avi_is_not_left_open.Goals as goal

pub returns : goal.returns
returns c = never_open (record {
  nothing = c.nothing_stands_after_a_written_file.ensures;
  riff = c.written_file_is_read_back.ensures.riff;
})
