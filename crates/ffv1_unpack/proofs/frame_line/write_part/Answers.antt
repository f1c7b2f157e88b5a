-- Writes which part of a frame was refused.
use Rattle.std.proofs.Common.{ℕ, Err, List, ◌++◌}
use Rattle.std.specs.Prelude.{codes, decimal}
use Rattle.std.proofs.lemmas.Result.{err_from_is_err_and}
use Rattle.ffv1_frame.specs.declared.fault.FrameFault.{FrameFault}
use Rattle.ffv1_unpack.specs.FrameLines.{part_of_frame}
use Rattle.ffv1_unpack.proofs.LineParts.{part_stops, part_then, parts_done}
use Rattle.ffv1_unpack.proofs.frame_line.write_part.Goals as goal

abbrev slice_of : FrameFault → List ℕ
slice_of f = codes " slice " ++ decimal f.slice

abbrev plane_of : FrameFault → List ℕ
plane_of f = codes " plane " ++ decimal f.plane

abbrev line_of : FrameFault → List ℕ
line_of f = codes " line " ++ decimal f.line

abbrev x_of : FrameFault → List ℕ
x_of f = codes " x " ++ decimal f.x

pub returns-in_err-write_number : goal.returns-in_err-write_number
unfolding part_of_frame
returns-in_err-write_number g c =
    let p = err_from_is_err_and c.from_residual.result c.from_residual.ensures.1 in
    let f = c.args.fault in
    let o = g.W.ByteOut.contents in
    let n = g.W.ByteOut.failures in
    rw p.1
    (part_stops (o c.args.output.now) (o c.write_number.new.output) (n c.args.output.now)
    (n c.write_number.new.output) ((slice_of f ++ plane_of f) ++ line_of f) (x_of f)
    c.in_err-write_number.field-0.0
    (part_stops (o c.args.output.now) (o c.write_number.new.output) (n c.args.output.now)
    (n c.write_number.new.output) (slice_of f ++ plane_of f) (line_of f)
    c.in_err-write_number.field-0.0
    (part_stops (o c.args.output.now) (o c.write_number.new.output) (n c.args.output.now)
    (n c.write_number.new.output) (slice_of f) (plane_of f) c.in_err-write_number.field-0.0
    (rw c.from.ensures at c.in_err-write_number.ensures))))

pub returns-in_err-write_number-2 : goal.returns-in_err-write_number-2
unfolding part_of_frame
returns-in_err-write_number-2 g c =
    let p = err_from_is_err_and c.from_residual-in_err-write_number-2.result
    c.from_residual-in_err-write_number-2.ensures.1 in
    let f = c.args.fault in
    let o = g.W.ByteOut.contents in
    let n = g.W.ByteOut.failures in
    rw p.1
    (part_stops (o c.args.output.now) (o c.write_number-2.new.output) (n c.args.output.now)
    (n c.write_number-2.new.output) ((slice_of f ++ plane_of f) ++ line_of f) (x_of f)
    c.in_err-write_number-2.field-0.0
    (part_stops (o c.args.output.now) (o c.write_number-2.new.output) (n c.args.output.now)
    (n c.write_number-2.new.output) (slice_of f ++ plane_of f) (line_of f)
    c.in_err-write_number-2.field-0.0
    (part_then (o c.args.output.now) (o c.write_number.new.output) (o c.write_number-2.new.output)
    (n c.args.output.now) (n c.write_number.new.output) (n c.write_number-2.new.output)
    (slice_of f) (plane_of f) (Err c.in_err-write_number-2.field-0.0)
    (rw c.from.ensures at c.in_ok-write_number.ensures)
    (rw c.from-2.ensures at c.in_err-write_number-2.ensures))))

pub returns-in_err-write_number-3 : goal.returns-in_err-write_number-3
unfolding part_of_frame
returns-in_err-write_number-3 g c =
    let p = err_from_is_err_and c.from_residual-in_err-write_number-3.result
    c.from_residual-in_err-write_number-3.ensures.1 in
    let f = c.args.fault in
    let o = g.W.ByteOut.contents in
    let n = g.W.ByteOut.failures in
    let done2 = parts_done (o c.args.output.now) (o c.write_number.new.output)
    (o c.write_number-2.new.output) (n c.args.output.now) (n c.write_number.new.output)
    (n c.write_number-2.new.output) (slice_of f) (plane_of f)
    (rw c.from.ensures at c.in_ok-write_number.ensures)
    (rw c.from-2.ensures at c.in_ok-write_number-2.ensures) in
    rw p.1
    (part_stops (o c.args.output.now) (o c.write_number-3.new.output) (n c.args.output.now)
    (n c.write_number-3.new.output) ((slice_of f ++ plane_of f) ++ line_of f) (x_of f)
    c.in_err-write_number-3.field-0.0
    (part_then (o c.args.output.now) (o c.write_number-2.new.output) (o c.write_number-3.new.output)
    (n c.args.output.now) (n c.write_number-2.new.output) (n c.write_number-3.new.output)
    (slice_of f ++ plane_of f) (line_of f) (Err c.in_err-write_number-3.field-0.0) done2
    (rw c.from-3.ensures at c.in_err-write_number-3.ensures)))

pub returns-in_err-write_number-4 : goal.returns-in_err-write_number-4
unfolding part_of_frame
returns-in_err-write_number-4 g c =
    let p = err_from_is_err_and c.from_residual-in_err-write_number-4.result
    c.from_residual-in_err-write_number-4.ensures.1 in
    let f = c.args.fault in
    let o = g.W.ByteOut.contents in
    let n = g.W.ByteOut.failures in
    let done2 = parts_done (o c.args.output.now) (o c.write_number.new.output)
    (o c.write_number-2.new.output) (n c.args.output.now) (n c.write_number.new.output)
    (n c.write_number-2.new.output) (slice_of f) (plane_of f)
    (rw c.from.ensures at c.in_ok-write_number.ensures)
    (rw c.from-2.ensures at c.in_ok-write_number-2.ensures) in
    let done3 = parts_done (o c.args.output.now) (o c.write_number-2.new.output)
    (o c.write_number-3.new.output) (n c.args.output.now) (n c.write_number-2.new.output)
    (n c.write_number-3.new.output) (slice_of f ++ plane_of f) (line_of f) done2
    (rw c.from-3.ensures at c.in_ok-write_number-3.ensures) in
    rw p.1
    (part_then (o c.args.output.now) (o c.write_number-3.new.output) (o c.write_number-4.new.output)
    (n c.args.output.now) (n c.write_number-3.new.output) (n c.write_number-4.new.output)
    ((slice_of f ++ plane_of f) ++ line_of f) (x_of f) (Err c.in_err-write_number-4.field-0.0)
    done3 (rw c.from-4.ensures at c.in_err-write_number-4.ensures))
