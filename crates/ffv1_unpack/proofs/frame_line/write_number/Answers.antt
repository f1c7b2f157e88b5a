-- Writes a word and a number.
use Rattle.std.proofs.Common.{◌≡◌, Err, ◌∙◌}
use Rattle.std.specs.Prelude.{decimal}
use Rattle.std.proofs.lemmas.Result.{err_from_is_err_and}
use Rattle.ffv1_unpack.proofs.LineParts.{part_then}
use Rattle.ffv1_unpack.proofs.frame_line.write_number.Goals as goal

pub returns-in_err-write_all-2 : goal.returns-in_err-write_all-2
returns-in_err-write_all-2 g c =
    let p = err_from_is_err_and c.from_residual-in_err-write_all-2.result
    c.from_residual-in_err-write_all-2.ensures.1 in
    let o = g.W.ByteOut.contents in
    let n = g.W.ByteOut.failures in
    let digits : c.as_bytes.result.now ≡ decimal c.args.number = c.as_bytes.ensures.value ∙
    c.format.ensures.text in
    rw p.1
    (part_then (o c.args.output.now) (o c.write_all.new.out) (o c.write_all-2.new.out)
    (n c.args.output.now) (n c.write_all.new.out) (n c.write_all-2.new.out) c.args.word.now
    (decimal c.args.number) (Err c.in_err-write_all-2.field-0.0)
    (c.in_ok-write_all.ensures.counted, c.in_ok-write_all.ensures.ok)
    (c.in_err-write_all-2.ensures.counted, rw digits at c.in_err-write_all-2.ensures.err))
