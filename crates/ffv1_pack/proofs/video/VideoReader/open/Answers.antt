-- Reads the head of a video, of a depth that the profile reads.
use Rattle.std.proofs.Common.{[], sym, subst}
use Rattle.std.proofs.lemmas.Result.{err_from_is_err_and}
use Rattle.ffv1_pack.proofs.VideoHeads.{FirstSays, first_says, header_refused, image_refused}
use Rattle.ffv1_pack.proofs.VideoHeads.{none_taken, wants_head}
use Rattle.ffv1_pack.proofs.video.VideoReader.open.Goals as goal

pub returns-in_default-clause-err : goal.returns-in_default-clause-err
returns-in_default-clause-err g c = (
  c.in_default.ensures.counted,
  (
    [],
    none_taken _ _ c.in_default.ensures.err,
    wants_head
        c.image_header_takes_its_first_byte.ensures.first _,
  ),
)

pub returns-in_err-reader-clause-err : goal.returns-in_err-reader-clause-err
returns-in_err-reader-clause-err g c =
    let p = err_from_is_err_and c.from_residual.result c.from_residual.ensures.1 in
    let says = subst (λ same. FirstSays same c.in-Ok.first) c.if-eq.true
    (first_says _ _ c.eq.ensures) in
    rw (p.1, p.2, sym c.in-Ok.ensures.counted)
    (image_refused c.image_header_takes_its_first_byte.ensures.first _ _ _ _ _ _ c.in-Ok.first
    c.in_err-reader.field-0.0 c.in-Ok.ensures.ok says c.in_err-reader.ensures.answer)

pub returns-in_err-reader-2-clause-err : goal.returns-in_err-reader-2-clause-err
returns-in_err-reader-2-clause-err g c =
    let p = err_from_is_err_and c.from_residual-in_err-reader-2.result
    c.from_residual-in_err-reader-2.ensures.1 in
    let says = subst (λ same. FirstSays same c.in-Ok.first) c.if-eq.false
    (first_says _ _ c.eq.ensures) in
    rw (p.1, p.2, sym c.in-Ok.ensures.counted)
    (header_refused c.image_header_takes_its_first_byte.ensures.first _ _ _ _ _ _ c.in-Ok.first
    c.in_err-reader-2.field-0.0 c.in-Ok.ensures.ok says c.in_err-reader-2.ensures.answer)
