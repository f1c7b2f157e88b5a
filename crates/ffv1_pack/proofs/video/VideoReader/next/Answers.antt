-- Reads the next picture in place of what the planes were; false at the end.
use Rattle.std.proofs.lemmas.Result.{err_from_is_err_and}
use Rattle.std.proofs.Common.{◌≡◌, None, false, refl, true}
use Rattle.ffv1_pack.proofs.VideoPictures.{next_read, next_refused}
use Rattle.ffv1_pack.proofs.video.VideoReader.next.Goals as goal

pub returns-in_err-next-in-Y4m-clause-err : goal.returns-in_err-next-in-Y4m-clause-err
returns-in_err-next-in-Y4m-clause-err g c =
    let p = err_from_is_err_and c.from_residual-in_err-next-in-Y4m.result
    c.from_residual-in_err-next-in-Y4m.ensures.1 in
    let r = c.in-Y4m.reader in
    let failed : r.failed ≡ None = rw c.in-Y4m.is at c.requires in
    rw (p.1, p.2, c.in-Y4m.is) (next_refused false 16 (record { head = r.head; depth = r.depth })
    true _ r.failed _ c.in_err-next-in-Y4m.field-0.0 failed c.in_err-next-in-Y4m.ensures.answer)

pub returns-in_ok-next-in-Y4m-clause-ok : goal.returns-in_ok-next-in-Y4m-clause-ok
returns-in_ok-next-in-Y4m-clause-ok g c =
    let r = c.in-Y4m.reader in
    let failed : r.failed ≡ None = rw c.in-Y4m.is at c.requires in
    rw (c.in-Y4m.is, c.next-in-Y4m.ensures.after)
    (next_read false 16 (record { head = r.head; depth = r.depth }) true _ _ true r.failed _ _ _
    failed (rw (failed, c.in_ok-next-in-Y4m.was) refl) (λ is. absurd (cc))
    c.in_ok-next-in-Y4m.ensures.answer)

pub returns-in_err-next-in-Ppm-clause-err : goal.returns-in_err-next-in-Ppm-clause-err
returns-in_err-next-in-Ppm-clause-err g c =
    let p = err_from_is_err_and c.from_residual.result c.from_residual.ensures.1 in
    let r = c.in-Ppm.reader in
    let failed : r.failed ≡ None = rw c.in-Ppm.is at c.requires in
    rw (p.1, p.2, c.in-Ppm.is) (next_refused true r.most (record { head = r.head; depth = r.depth })
    r.begun _ r.failed _ c.in_err-next-in-Ppm.field-0.0 failed
    c.in_err-next-in-Ppm.ensures.answer)

pub returns-in_ok-next-in-Ppm-clause-ok : goal.returns-in_ok-next-in-Ppm-clause-ok
returns-in_ok-next-in-Ppm-clause-ok g c =
    let r = c.in-Ppm.reader in
    let failed : r.failed ≡ None = rw c.in-Ppm.is at c.requires in
    rw (c.in-Ppm.is, c.next.ensures.after) (next_read true r.most
    (record { head = r.head; depth = r.depth }) r.begun _ _ false r.failed _ _ _ failed
    (rw (failed, c.in_ok-next-in-Ppm.was) refl) (λ is. refl) c.in_ok-next-in-Ppm.ensures.answer)
