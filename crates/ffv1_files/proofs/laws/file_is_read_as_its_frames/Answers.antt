-- Such a file is read so.
use Rattle.ffv1_files.proofs.FileLaws.{first_read, whole_read}
use Rattle.ffv1_files.proofs.laws.file_is_read_as_its_frames.Goals as goal

pub returns-clause-first : goal.returns-clause-first
returns-clause-first c = first_read c.file_is_read_as_its_frames.ensures.read

pub returns-clause-whole : goal.returns-clause-whole
returns-clause-whole c = whole_read c.file_is_read_as_its_frames.ensures.every_then
    c.file_without_sizes_is_read.ensures.read c.file_is_read_wherever_its_tracks_stand.ensures.read
