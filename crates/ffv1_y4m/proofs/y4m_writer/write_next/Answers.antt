-- Writes a picture, and before the first one the header.
use Rattle.std.proofs.lemmas.Result.{err_from_is_err_and}
use Rattle.std.proofs.Common.{Err, arith}
use Rattle.std.proofs.lemmas.Grind.{common_steps}
use Rattle.ffv1_y4m.specs.Canonical.{header_text}
use Rattle.ffv1_y4m.specs.Pictures.{picture_text}
use Rattle.ffv1_y4m.specs.State.{samples_of}
use Rattle.ffv1_y4m.proofs.Written.{writes_next}
use Rattle.ffv1_y4m.proofs.y4m_writer.write_next.Goals as goal

pub returns-in_err-write_picture-2 : goal.returns-in_err-write_picture-2
returns-in_err-write_picture-2 g c =
    let p = err_from_is_err_and c.from_residual-in_err-write_picture-2.result
    c.from_residual-in_err-write_picture-2.ensures.1 in
    rw (p.1, p.2, c.if-begun.false) (writes_next (header_text c.args.depth c.args.head.now)
    (picture_text (samples_of c.args.planes.now)) (g.W.ByteOut.contents c.args.output.now)
    (g.W.ByteOut.contents c.write_header.new.output)
    (g.W.ByteOut.contents c.write_picture-2.new.output) (g.W.ByteOut.failures c.args.output.now)
    (g.W.ByteOut.failures c.write_header.new.output)
    (g.W.ByteOut.failures c.write_picture-2.new.output) tt
    (Err c.in_err-write_picture-2.field-0.0) c.in_ok-write_header.ensures
    c.in_err-write_picture-2.ensures)

pub returns-in_err-write_header : goal.returns-in_err-write_header
returns-in_err-write_header g c = grind (arith, common_steps)
