-- Codes the first picture of a YUV4MPEG2 text as the content of one slice, decodes the code, and
-- writes four lines.
use Rattle.std.proofs.lemmas.Result.{err_from_is_err_and}
use Rattle.std.proofs.KnownBytes.{Keeps-refl}
use Rattle.std.proofs.Common.{refl}
use Rattle.ffv1_pack.proofs.Refusals.{picture_refused}
use Rattle.ffv1_pack.proofs.mono_trial.trial.Goals as goal

pub returns-in_err-mono-clause-err : goal.returns-in_err-mono-clause-err
returns-in_err-mono-clause-err g c =
    let p = err_from_is_err_and c.from_residual.result c.from_residual.ensures.1 in
    rw (p.1, p.2) (picture_refused _ _ c.in_err-mono.field-0.0 c.in_err-mono.ensures.err
    (record { kept = Keeps-refl _; same = refl }))
