-- Writes the sizes of a header.
use Rattle.std.proofs.lemmas.Result.{err_from_is_err_and}
use Rattle.std.proofs.Common.{Err, ◌++◌, codes}
use Rattle.ffv1_y4m.specs.Canonical.{number_text, sizes_text}
use Rattle.ffv1_y4m.proofs.Written.{writes_first, writes_next}
use Rattle.ffv1_y4m.proofs.writing.write_sizes.Goals as goal

pub returns-in_err-write_part : goal.returns-in_err-write_part
unfolding sizes_text
returns-in_err-write_part g c =
    let p = err_from_is_err_and c.from_residual.result c.from_residual.ensures.1 in
    rw (p.1, p.2) (writes_first (codes "YUV4MPEG2")
    ((number_text (codes " W") c.args.head.now.width) ++
    (number_text (codes " H") c.args.head.now.height)) (g.W.ByteOut.contents c.args.output.now)
    (g.W.ByteOut.contents c.write_part.new.output) (g.W.ByteOut.failures c.args.output.now)
    (g.W.ByteOut.failures c.write_part.new.output) c.in_err-write_part.field-0.0
    c.in_err-write_part.ensures)

pub returns-in_err-write_number : goal.returns-in_err-write_number
unfolding sizes_text
returns-in_err-write_number g c =
    let p = err_from_is_err_and c.from_residual-in_err-write_number.result
    c.from_residual-in_err-write_number.ensures.1 in
    rw (p.1, p.2) (writes_next (codes "YUV4MPEG2")
    ((number_text (codes " W") c.args.head.now.width) ++
    (number_text (codes " H") c.args.head.now.height)) (g.W.ByteOut.contents c.args.output.now)
    (g.W.ByteOut.contents c.write_part.new.output)
    (g.W.ByteOut.contents c.write_number.new.output) (g.W.ByteOut.failures c.args.output.now)
    (g.W.ByteOut.failures c.write_part.new.output)
    (g.W.ByteOut.failures c.write_number.new.output) tt (Err c.in_err-write_number.field-0.0)
    c.in_ok-write_part.ensures (writes_first (number_text (codes " W") c.args.head.now.width)
    (number_text (codes " H") c.args.head.now.height)
    (g.W.ByteOut.contents c.write_part.new.output)
    (g.W.ByteOut.contents c.write_number.new.output)
    (g.W.ByteOut.failures c.write_part.new.output)
    (g.W.ByteOut.failures c.write_number.new.output) c.in_err-write_number.field-0.0
    c.in_err-write_number.ensures))

pub returns-in_err-write_number-2 : goal.returns-in_err-write_number-2
unfolding sizes_text
returns-in_err-write_number-2 g c =
    let p = err_from_is_err_and c.from_residual-in_err-write_number-2.result
    c.from_residual-in_err-write_number-2.ensures.1 in
    rw (p.1, p.2) (writes_next (codes "YUV4MPEG2")
    ((number_text (codes " W") c.args.head.now.width) ++
    (number_text (codes " H") c.args.head.now.height)) (g.W.ByteOut.contents c.args.output.now)
    (g.W.ByteOut.contents c.write_part.new.output)
    (g.W.ByteOut.contents c.write_number-2.new.output) (g.W.ByteOut.failures c.args.output.now)
    (g.W.ByteOut.failures c.write_part.new.output)
    (g.W.ByteOut.failures c.write_number-2.new.output) tt
    (Err c.in_err-write_number-2.field-0.0) c.in_ok-write_part.ensures
    (writes_next (number_text (codes " W") c.args.head.now.width)
    (number_text (codes " H") c.args.head.now.height)
    (g.W.ByteOut.contents c.write_part.new.output)
    (g.W.ByteOut.contents c.write_number.new.output)
    (g.W.ByteOut.contents c.write_number-2.new.output)
    (g.W.ByteOut.failures c.write_part.new.output)
    (g.W.ByteOut.failures c.write_number.new.output)
    (g.W.ByteOut.failures c.write_number-2.new.output) tt
    (Err c.in_err-write_number-2.field-0.0) c.in_ok-write_number.ensures
    c.in_err-write_number-2.ensures))
