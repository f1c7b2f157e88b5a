-- `open_again`: reads a file twice from its beginning, since Tracks stand behind its first Cluster.
use Rattle.std.proofs.lemmas.Result.{err_from_is_err_and}
use Rattle.ffv1_matroska.proofs.AgainFaults.{again_own}
use Rattle.ffv1_matroska.proofs.reader.MatroskaReader.open_again.Goals as goal

pub returns-in_err-segment-clause-own : goal.returns-in_err-segment-clause-own
returns-in_err-segment-clause-own g c =
    let p = err_from_is_err_and c.from_residual.result c.from_residual.ensures.1 in
    rw (p.1, p.2) (again_own _ _ c.in_err-segment.field-0.0 c.in_err-segment.ensures.answer)
