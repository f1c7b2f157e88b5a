-- If a reader came to the end and tells no bytes after the last RIFF, none stand there.
use Rattle.ffv1_avi.proofs.BehindLaws.{none_behind, open_behind, some_behind}
use Rattle.ffv1_avi.proofs.laws.no_bytes_told_are_none.Goals as goal

pub returns-clause-none : goal.returns-clause-none
returns-clause-none c = none_behind

pub returns-clause-told : goal.returns-clause-told
returns-clause-told c = some_behind

pub returns-clause-open_ended : goal.returns-clause-open_ended
returns-clause-open_ended c = open_behind
