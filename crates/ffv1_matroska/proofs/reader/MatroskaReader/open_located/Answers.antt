-- `open_located`: the same, which says where in the file a fault is: `offset` is then the number of
-- bytes before the element at fault, counting the byte that was read before; no greater than 2^64 -
-- 1.
use Rattle.std.proofs.lemmas.Result.{err_from_is_err_and}
use Rattle.ffv1_matroska.proofs.OpeningFaults.{opening_own}
use Rattle.ffv1_matroska.proofs.reader.MatroskaReader.open_located.Goals as goal

pub returns-in_err-segment-clause-own : goal.returns-in_err-segment-clause-own
returns-in_err-segment-clause-own g c =
    let p = err_from_is_err_and c.from_residual.result c.from_residual.ensures.1 in
    rw (p.1, p.2) (opening_own _ _ _ _ c.in_err-segment.field-0.0 c.in_err-segment.ensures.answer)
