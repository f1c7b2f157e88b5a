-- Writes the line of how many bytes of the file come before what is at fault, part by part: it
-- takes no memory.
use Rattle.std.proofs.Common.{ℕ, Err, List, ◌++◌}
use Rattle.std.specs.Prelude.{codes, decimal}
use Rattle.std.proofs.lemmas.Result.{err_from_is_err_and}
use Rattle.ffv1_unpack.specs.FrameLines.{offset_line}
use Rattle.ffv1_unpack.proofs.LineParts.{part_stops, part_then, parts_done}
use Rattle.ffv1_unpack.proofs.frame_line.write_offset.Goals as goal

abbrev begun : ℕ → List ℕ
begun number = codes "fault frame " ++ decimal number

abbrev counted : ℕ → List ℕ
counted offset = codes " byte " ++ decimal offset

abbrev over : List ℕ
over = codes "\n"

pub returns-in_err-write_number : goal.returns-in_err-write_number
unfolding offset_line
returns-in_err-write_number g c =
    let p = err_from_is_err_and c.from_residual.result c.from_residual.ensures.1 in
    let o = g.W.ByteOut.contents in
    let n = g.W.ByteOut.failures in
    rw p.1
    (part_stops (o c.args.output.now) (o c.write_number.new.output) (n c.args.output.now)
    (n c.write_number.new.output) (begun c.args.number ++ counted c.args.offset) over
    c.in_err-write_number.field-0.0
    (part_stops (o c.args.output.now) (o c.write_number.new.output) (n c.args.output.now)
    (n c.write_number.new.output) (begun c.args.number) (counted c.args.offset)
    c.in_err-write_number.field-0.0
    c.in_err-write_number.ensures))

pub returns-in_err-write_number-2 : goal.returns-in_err-write_number-2
unfolding offset_line
returns-in_err-write_number-2 g c =
    let p = err_from_is_err_and c.from_residual-in_err-write_number-2.result
    c.from_residual-in_err-write_number-2.ensures.1 in
    let o = g.W.ByteOut.contents in
    let n = g.W.ByteOut.failures in
    rw p.1
    (part_stops (o c.args.output.now) (o c.write_number-2.new.output) (n c.args.output.now)
    (n c.write_number-2.new.output) (begun c.args.number ++ counted c.args.offset) over
    c.in_err-write_number-2.field-0.0
    (part_then (o c.args.output.now) (o c.write_number.new.output) (o c.write_number-2.new.output)
    (n c.args.output.now) (n c.write_number.new.output) (n c.write_number-2.new.output)
    (begun c.args.number) (counted c.args.offset) (Err c.in_err-write_number-2.field-0.0)
    c.in_ok-write_number.ensures c.in_err-write_number-2.ensures))

pub returns-in_err-write_all : goal.returns-in_err-write_all
unfolding offset_line
returns-in_err-write_all g c =
    let p = err_from_is_err_and c.from_residual-in_err-write_all.result
    c.from_residual-in_err-write_all.ensures.1 in
    let o = g.W.ByteOut.contents in
    let n = g.W.ByteOut.failures in
    let done = parts_done (o c.args.output.now) (o c.write_number.new.output)
    (o c.write_number-2.new.output) (n c.args.output.now) (n c.write_number.new.output)
    (n c.write_number-2.new.output) (begun c.args.number) (counted c.args.offset)
    c.in_ok-write_number.ensures c.in_ok-write_number-2.ensures in
    rw p.1
    (part_then (o c.args.output.now) (o c.write_number-2.new.output) (o c.write_all.new.out)
    (n c.args.output.now) (n c.write_number-2.new.output) (n c.write_all.new.out)
    (begun c.args.number ++ counted c.args.offset) over (Err c.in_err-write_all.field-0.0) done
    (c.in_err-write_all.ensures.counted, c.in_err-write_all.ensures.err))

pub returns : goal.returns
unfolding offset_line
returns g c =
    let o = g.W.ByteOut.contents in
    let n = g.W.ByteOut.failures in
    let done = parts_done (o c.args.output.now) (o c.write_number.new.output)
    (o c.write_number-2.new.output) (n c.args.output.now) (n c.write_number.new.output)
    (n c.write_number-2.new.output) (begun c.args.number) (counted c.args.offset)
    c.in_ok-write_number.ensures c.in_ok-write_number-2.ensures in
    parts_done (o c.args.output.now) (o c.write_number-2.new.output) (o c.write_all.new.out)
    (n c.args.output.now) (n c.write_number-2.new.output) (n c.write_all.new.out)
    (begun c.args.number ++ counted c.args.offset) over done
    (c.in_ok-write_all.ensures.counted, c.in_ok-write_all.ensures.ok)
