-- Writes the parts in order.
use Rattle.std.proofs.lemmas.Result.{err_from_is_err_and}
use Rattle.ffv1_y4m.proofs.Written.{parts_stop}
use Rattle.ffv1_y4m.proofs.writing.write_parts.Goals as goal

pub returns-in_err-write_part : goal.returns-in_err-write_part
returns-in_err-write_part g c =
    let p = err_from_is_err_and c.from_residual.result c.from_residual.ensures.1 in
    let h = c.loop-part.invariant in
    rw (p.1, p.2) (parts_stop (λ part. part.now) c.args.parts.now c.loop-part.part-index _ _ _ _ _ _
    _ _ c.loop-part-test.true h.0 h.1 c.in_err-write_part.ensures)
