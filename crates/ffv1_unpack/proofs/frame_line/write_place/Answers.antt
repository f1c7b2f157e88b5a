-- Writes the line of the place where a frame is refused, part by part: it takes no memory.
use Rattle.std.proofs.Common.{ℕ, Err, List, ◌++◌}
use Rattle.std.specs.Prelude.{codes, decimal}
use Rattle.std.proofs.lemmas.Result.{err_from_is_err_and}
use Rattle.ffv1_unpack.specs.FrameLines.{part_of_frame, place_line}
use Rattle.ffv1_unpack.proofs.LineParts.{part_stops, part_then, parts_done}
use Rattle.ffv1_unpack.proofs.frame_line.write_place.Goals as goal

abbrev begun : ℕ → List ℕ
begun number = codes "fault frame " ++ decimal number

abbrev counted : ℕ → List ℕ
counted decisions = codes " decisions " ++ decimal decisions

abbrev over : List ℕ
over = codes "\n"

pub returns-in_err-write_number : goal.returns-in_err-write_number
unfolding place_line
returns-in_err-write_number g c =
    let p = err_from_is_err_and c.from_residual.result c.from_residual.ensures.1 in
    let o = g.W.ByteOut.contents in
    let n = g.W.ByteOut.failures in
    rw p.1
    (part_stops (o c.args.output.now) (o c.write_number.new.output) (n c.args.output.now)
    (n c.write_number.new.output) ((begun c.args.number ++ part_of_frame c.args.fault) ++
    counted c.args.decisions) over c.in_err-write_number.field-0.0
    (part_stops (o c.args.output.now) (o c.write_number.new.output) (n c.args.output.now)
    (n c.write_number.new.output) (begun c.args.number ++ part_of_frame c.args.fault)
    (counted c.args.decisions) c.in_err-write_number.field-0.0
    (part_stops (o c.args.output.now) (o c.write_number.new.output) (n c.args.output.now)
    (n c.write_number.new.output) (begun c.args.number) (part_of_frame c.args.fault)
    c.in_err-write_number.field-0.0
    (c.in_err-write_number.ensures))))

pub returns-in_err-write_part : goal.returns-in_err-write_part
unfolding place_line
returns-in_err-write_part g c =
    let p = err_from_is_err_and c.from_residual-in_err-write_part.result
    c.from_residual-in_err-write_part.ensures.1 in
    let o = g.W.ByteOut.contents in
    let n = g.W.ByteOut.failures in
    rw p.1
    (part_stops (o c.args.output.now) (o c.write_part.new.output) (n c.args.output.now)
    (n c.write_part.new.output) ((begun c.args.number ++ part_of_frame c.args.fault) ++ counted
    c.args.decisions) over c.in_err-write_part.field-0.0
    (part_stops (o c.args.output.now) (o c.write_part.new.output) (n c.args.output.now)
    (n c.write_part.new.output) (begun c.args.number ++ part_of_frame c.args.fault)
    (counted c.args.decisions) c.in_err-write_part.field-0.0
    (part_then (o c.args.output.now) (o c.write_number.new.output) (o c.write_part.new.output)
    (n c.args.output.now) (n c.write_number.new.output) (n c.write_part.new.output)
    (begun c.args.number) (part_of_frame c.args.fault) (Err c.in_err-write_part.field-0.0)
    c.in_ok-write_number.ensures c.in_err-write_part.ensures)))

pub returns-in_err-write_number-2 : goal.returns-in_err-write_number-2
unfolding place_line
returns-in_err-write_number-2 g c =
    let p = err_from_is_err_and c.from_residual-in_err-write_number-2.result
    c.from_residual-in_err-write_number-2.ensures.1 in
    let o = g.W.ByteOut.contents in
    let n = g.W.ByteOut.failures in
    let done2 = parts_done (o c.args.output.now) (o c.write_number.new.output)
    (o c.write_part.new.output) (n c.args.output.now) (n c.write_number.new.output)
    (n c.write_part.new.output) (begun c.args.number) (part_of_frame c.args.fault)
    c.in_ok-write_number.ensures c.in_ok-write_part.ensures in
    rw p.1
    (part_stops (o c.args.output.now) (o c.write_number-2.new.output) (n c.args.output.now)
    (n c.write_number-2.new.output) ((begun c.args.number ++ part_of_frame c.args.fault) ++
    counted c.args.decisions) over c.in_err-write_number-2.field-0.0
    (part_then (o c.args.output.now) (o c.write_part.new.output) (o c.write_number-2.new.output)
    (n c.args.output.now) (n c.write_part.new.output) (n c.write_number-2.new.output)
    (begun c.args.number ++ part_of_frame c.args.fault) (counted c.args.decisions)
    (Err c.in_err-write_number-2.field-0.0) done2 c.in_err-write_number-2.ensures))

pub returns-in_err-write_all : goal.returns-in_err-write_all
unfolding place_line
returns-in_err-write_all g c =
    let p = err_from_is_err_and c.from_residual-in_err-write_all.result
    c.from_residual-in_err-write_all.ensures.1 in
    let o = g.W.ByteOut.contents in
    let n = g.W.ByteOut.failures in
    let done2 = parts_done (o c.args.output.now) (o c.write_number.new.output)
    (o c.write_part.new.output) (n c.args.output.now) (n c.write_number.new.output)
    (n c.write_part.new.output) (begun c.args.number) (part_of_frame c.args.fault)
    c.in_ok-write_number.ensures c.in_ok-write_part.ensures in
    let done3 = parts_done (o c.args.output.now) (o c.write_part.new.output)
    (o c.write_number-2.new.output) (n c.args.output.now) (n c.write_part.new.output)
    (n c.write_number-2.new.output) (begun c.args.number ++ part_of_frame c.args.fault)
    (counted c.args.decisions) done2 c.in_ok-write_number-2.ensures in
    rw p.1
    (part_then (o c.args.output.now) (o c.write_number-2.new.output) (o c.write_all.new.out)
    (n c.args.output.now) (n c.write_number-2.new.output) (n c.write_all.new.out)
    ((begun c.args.number ++ part_of_frame c.args.fault) ++ counted c.args.decisions) over
    (Err c.in_err-write_all.field-0.0) done3
    (c.in_err-write_all.ensures.counted, c.in_err-write_all.ensures.err))

pub returns : goal.returns
unfolding place_line
returns g c =
    let o = g.W.ByteOut.contents in
    let n = g.W.ByteOut.failures in
    let done2 = parts_done (o c.args.output.now) (o c.write_number.new.output)
    (o c.write_part.new.output) (n c.args.output.now) (n c.write_number.new.output)
    (n c.write_part.new.output) (begun c.args.number) (part_of_frame c.args.fault)
    c.in_ok-write_number.ensures c.in_ok-write_part.ensures in
    let done3 = parts_done (o c.args.output.now) (o c.write_part.new.output)
    (o c.write_number-2.new.output) (n c.args.output.now) (n c.write_part.new.output)
    (n c.write_number-2.new.output) (begun c.args.number ++ part_of_frame c.args.fault)
    (counted c.args.decisions) done2 c.in_ok-write_number-2.ensures in
    parts_done (o c.args.output.now) (o c.write_number-2.new.output) (o c.write_all.new.out)
    (n c.args.output.now) (n c.write_number-2.new.output) (n c.write_all.new.out)
    ((begun c.args.number ++ part_of_frame c.args.fault) ++ counted c.args.decisions) over done3
    (c.in_ok-write_all.ensures.counted, c.in_ok-write_all.ensures.ok)
