-- What is written of a head and frames that can be read back is a file of them, by its elements,
-- and is read so to its last byte: the whole file, the open one, and the one that is begun.
use Rattle.ffv1_matroska.proofs.WrittenFile.{begun_file, finished_file, open_file}
use Rattle.ffv1_matroska.proofs.written_laws.written_file_is_read_back.Goals as goal

pub returns-clause-finished : goal.returns-clause-finished
returns-clause-finished c = λ head details frames is.
    let r = finished_file head details frames is in
    (r.is, r.read)

pub returns-clause-open : goal.returns-clause-open
returns-clause-open c = λ head details frames is. let r = open_file head details frames is in
    (r.is, r.read)

pub returns-clause-begun : goal.returns-clause-begun
returns-clause-begun c = λ head details frames some is. let r = begun_file head details frames some
    is in (r.is, r.read)
