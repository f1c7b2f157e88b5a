-- After an AVI that was written no bytes are noted: it is read to its last one.
use Rattle.ffv1_files.proofs.WrittenNotes.{none_after}
use Rattle.ffv1_files.proofs.laws.nothing_is_noted_after_a_written_avi.Goals as goal

pub returns : goal.returns
returns c = none_after (record {
  nothing = c.nothing_stands_after_a_written_file.ensures;
  riff = c.written_file_is_read_back.ensures.riff;
})
