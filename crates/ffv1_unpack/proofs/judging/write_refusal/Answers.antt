-- Writes the line of a frame that is refused, and with `place` that of the place.
use Rattle.std.proofs.Common.{sym, ◌∙◌}
use Rattle.std.proofs.lemmas.Result.{err_from_is_err_and}
use Rattle.ffv1_codec.specs.Answer.{decided_by}
use Rattle.ffv1_unpack.specs.FrameLines.{place_line, place_text}
use Rattle.ffv1_unpack.specs.Judged.{refused_line}
use Rattle.ffv1_unpack.proofs.LineParts.{frame_stops, line_not_written}
use Rattle.ffv1_unpack.proofs.judging.write_refusal.Goals as goal

pub returns-in_err-write_refused : goal.returns-in_err-write_refused
returns-in_err-write_refused g c =
    let p = err_from_is_err_and c.from_residual.result c.from_residual.ensures.1 in
    let o = g.W.ByteOut.contents in
    let n = g.W.ByteOut.failures in
    rw (p.1, p.2)
    (frame_stops (o c.args.output.now) (o c.write_refused.new.output) (n c.args.output.now)
    (n c.write_refused.new.output) (refused_line c.args.number c.args.fault.fault)
    (place_text c.args.place c.args.number c.args.fault c.args.decoder.now.tally)
    c.in_err-write_refused.field-0.0 c.in_err-write_refused.ensures)

pub returns-then-is_err : goal.returns-then-is_err
returns-then-is_err g c =
    let o = g.W.ByteOut.contents in
    let n = g.W.ByteOut.failures in
    rw c.if-place.true
    (line_not_written (o c.args.output.now) (o c.write_refused.new.output)
    (o c.write_place.new.output) (n c.args.output.now) (n c.write_refused.new.output)
    (n c.write_place.new.output)
    (refused_line c.args.number c.args.fault.fault)
    (place_line c.args.number c.args.fault (decided_by c.args.decoder.now.tally))
    c.write_place.result
    (sym c.is_err.ensures.value ∙ c.if-is_err.true) c.in_ok-write_refused.ensures
    (rw c.decisions.ensures at c.write_place.ensures))
