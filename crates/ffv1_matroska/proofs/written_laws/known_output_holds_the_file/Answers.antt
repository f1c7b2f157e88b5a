-- An output that held nothing before the first frame, and whose bytes are known, holds the file
-- that is begun of the frames that were put. After a write that failed it holds a beginning of
-- that, and at the end the whole file, or the open one.
use Rattle.ffv1_matroska.proofs.KnownFiles.{finished_known, open_known, put_failed, put_known}
use Rattle.ffv1_matroska.proofs.written_laws.known_output_holds_the_file.Goals as goal

pub returns-clause-put : goal.returns-clause-put
returns-clause-put c = put_known

pub returns-clause-failed : goal.returns-clause-failed
returns-clause-failed c = put_failed

pub returns-clause-finished : goal.returns-clause-finished
returns-clause-finished c = finished_known

pub returns-clause-open : goal.returns-clause-open
returns-clause-open c = open_known
