-- Reads a file that may be damaged up to where its frames begin.
use Rattle.std.proofs.lemmas.Result.{err_from_is_err_and}
use Rattle.ffv1_matroska.proofs.SalvageOwn.{salvage_own}
use Rattle.ffv1_matroska.proofs.reader.MatroskaReader.open_salvaged.Goals as goal

pub returns-in_err-segment-clause-own : goal.returns-in_err-segment-clause-own
returns-in_err-segment-clause-own g c =
    let p = err_from_is_err_and c.from_residual.result c.from_residual.ensures.1 in
    rw (p.1, p.2) (salvage_own _ _ _ _ c.in_err-segment.field-0.0 c.in_err-segment.ensures.answer)
