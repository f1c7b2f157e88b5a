-- Writes a row, and before the first one of an image its header.
use Rattle.std.proofs.lemmas.Result.{err_from_is_err_and}
use Rattle.std.proofs.Common.{Err}
use Rattle.ffv1_y4m.specs.Ppm.{image_header_text}
use Rattle.ffv1_y4m.proofs.Written.{writes_next}
use Rattle.ffv1_y4m.proofs.ppm_writer.write_row.Goals as goal

pub returns-in_err-write_part : goal.returns-in_err-write_part
returns-in_err-write_part g c =
    let p = err_from_is_err_and c.from_residual-in_err-write_part.result
    c.from_residual-in_err-write_part.ensures.1 in
    rw (p.1, p.2, c.if-row-eq0.true) (writes_next
    (image_header_text c.args.depth c.args.width c.args.height) c.args.text.now
    (g.W.ByteOut.contents c.args.out.now) (g.W.ByteOut.contents c.write_image_header.new.output)
    (g.W.ByteOut.contents c.write_part.new.output) (g.W.ByteOut.failures c.args.out.now)
    (g.W.ByteOut.failures c.write_image_header.new.output)
    (g.W.ByteOut.failures c.write_part.new.output) tt (Err c.in_err-write_part.field-0.0)
    c.in_ok-write_image_header.ensures c.in_err-write_part.ensures)
