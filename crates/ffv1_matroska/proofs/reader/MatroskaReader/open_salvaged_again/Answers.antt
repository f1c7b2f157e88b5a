-- `open_salvaged_again`: reads a file that may be damaged twice from its beginning.
use Rattle.std.proofs.lemmas.Result.{err_from_is_err_and}
use Rattle.ffv1_matroska.proofs.LateOwn.{late_own}
use Rattle.ffv1_matroska.proofs.reader.MatroskaReader.open_salvaged_again.Goals as goal

pub returns-in_err-segment-clause-own : goal.returns-in_err-segment-clause-own
returns-in_err-segment-clause-own g c =
    let p = err_from_is_err_and c.from_residual.result c.from_residual.ensures.1 in
    rw (p.1, p.2) (late_own _ _ c.in_err-segment.field-0.0 c.in_err-segment.ensures.answer)
