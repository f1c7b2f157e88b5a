-- Writes the header.
use Rattle.std.proofs.lemmas.Result.{err_from_is_err_and}
use Rattle.std.proofs.Common.{Err, ◌++◌, codes}
use Rattle.ffv1_y4m.specs.Canonical.{sizes_text, name_text, chroma_name, depth_name, times_text}
use Rattle.ffv1_y4m.specs.Canonical.{header_text, range_end}
use Rattle.ffv1_y4m.proofs.Written.{writes_first, writes_next}
use Rattle.ffv1_y4m.proofs.writing.write_header.Goals as goal

pub returns-in_err-write_sizes : goal.returns-in_err-write_sizes
unfolding header_text
returns-in_err-write_sizes g c =
    let p = err_from_is_err_and c.from_residual.result c.from_residual.ensures.1 in
    rw (p.1, p.2) (writes_first (sizes_text c.args.head.now)
    ((times_text c.args.head.now) ++ ((name_text (codes " C")
    (chroma_name c.args.depth c.args.head.now)) ++
    (name_text (depth_name c.args.depth) (range_end c.args.head.now.range))))
    (g.W.ByteOut.contents c.args.output.now) (g.W.ByteOut.contents c.write_sizes.new.output)
    (g.W.ByteOut.failures c.args.output.now) (g.W.ByteOut.failures c.write_sizes.new.output)
    c.in_err-write_sizes.field-0.0 c.in_err-write_sizes.ensures)

pub returns-in_err-write_times : goal.returns-in_err-write_times
unfolding header_text
returns-in_err-write_times g c =
    let p = err_from_is_err_and c.from_residual-in_err-write_times.result
    c.from_residual-in_err-write_times.ensures.1 in
    rw (p.1, p.2) (writes_next (sizes_text c.args.head.now)
    ((times_text c.args.head.now) ++ ((name_text (codes " C")
    (chroma_name c.args.depth c.args.head.now)) ++
    (name_text (depth_name c.args.depth) (range_end c.args.head.now.range))))
    (g.W.ByteOut.contents c.args.output.now) (g.W.ByteOut.contents c.write_sizes.new.output)
    (g.W.ByteOut.contents c.write_times.new.output) (g.W.ByteOut.failures c.args.output.now)
    (g.W.ByteOut.failures c.write_sizes.new.output)
    (g.W.ByteOut.failures c.write_times.new.output) tt (Err c.in_err-write_times.field-0.0)
    c.in_ok-write_sizes.ensures (writes_first (times_text c.args.head.now)
    ((name_text (codes " C") (chroma_name c.args.depth c.args.head.now)) ++
    (name_text (depth_name c.args.depth) (range_end c.args.head.now.range)))
    (g.W.ByteOut.contents c.write_sizes.new.output)
    (g.W.ByteOut.contents c.write_times.new.output)
    (g.W.ByteOut.failures c.write_sizes.new.output)
    (g.W.ByteOut.failures c.write_times.new.output) c.in_err-write_times.field-0.0
    c.in_err-write_times.ensures))

pub returns-in_err-write_name : goal.returns-in_err-write_name
unfolding header_text
returns-in_err-write_name g c =
    let p = err_from_is_err_and c.from_residual-in_err-write_name.result
    c.from_residual-in_err-write_name.ensures.1 in
    rw (p.1, p.2) (writes_next (sizes_text c.args.head.now)
    ((times_text c.args.head.now) ++ ((name_text (codes " C")
    (chroma_name c.args.depth c.args.head.now)) ++
    (name_text (depth_name c.args.depth) (range_end c.args.head.now.range))))
    (g.W.ByteOut.contents c.args.output.now) (g.W.ByteOut.contents c.write_sizes.new.output)
    (g.W.ByteOut.contents c.write_name.new.output) (g.W.ByteOut.failures c.args.output.now)
    (g.W.ByteOut.failures c.write_sizes.new.output)
    (g.W.ByteOut.failures c.write_name.new.output) tt (Err c.in_err-write_name.field-0.0)
    c.in_ok-write_sizes.ensures (writes_next (times_text c.args.head.now)
    ((name_text (codes " C") (chroma_name c.args.depth c.args.head.now)) ++
    (name_text (depth_name c.args.depth) (range_end c.args.head.now.range)))
    (g.W.ByteOut.contents c.write_sizes.new.output)
    (g.W.ByteOut.contents c.write_times.new.output)
    (g.W.ByteOut.contents c.write_name.new.output)
    (g.W.ByteOut.failures c.write_sizes.new.output)
    (g.W.ByteOut.failures c.write_times.new.output)
    (g.W.ByteOut.failures c.write_name.new.output) tt (Err c.in_err-write_name.field-0.0)
    c.in_ok-write_times.ensures (writes_first
    (name_text (codes " C") (chroma_name c.args.depth c.args.head.now))
    (name_text (depth_name c.args.depth) (range_end c.args.head.now.range))
    (g.W.ByteOut.contents c.write_times.new.output)
    (g.W.ByteOut.contents c.write_name.new.output)
    (g.W.ByteOut.failures c.write_times.new.output)
    (g.W.ByteOut.failures c.write_name.new.output) c.in_err-write_name.field-0.0
    (rw c.chroma_name.ensures at c.in_err-write_name.ensures))))

pub returns-in_err-write_name-2 : goal.returns-in_err-write_name-2
unfolding header_text
returns-in_err-write_name-2 g c =
    let p = err_from_is_err_and c.from_residual-in_err-write_name-2.result
    c.from_residual-in_err-write_name-2.ensures.1 in
    rw (p.1, p.2) (writes_next (sizes_text c.args.head.now)
    ((times_text c.args.head.now) ++ ((name_text (codes " C")
    (chroma_name c.args.depth c.args.head.now)) ++
    (name_text (depth_name c.args.depth) (range_end c.args.head.now.range))))
    (g.W.ByteOut.contents c.args.output.now) (g.W.ByteOut.contents c.write_sizes.new.output)
    (g.W.ByteOut.contents c.write_name-2.new.output) (g.W.ByteOut.failures c.args.output.now)
    (g.W.ByteOut.failures c.write_sizes.new.output)
    (g.W.ByteOut.failures c.write_name-2.new.output) tt (Err c.in_err-write_name-2.field-0.0)
    c.in_ok-write_sizes.ensures (writes_next (times_text c.args.head.now)
    ((name_text (codes " C") (chroma_name c.args.depth c.args.head.now)) ++
    (name_text (depth_name c.args.depth) (range_end c.args.head.now.range)))
    (g.W.ByteOut.contents c.write_sizes.new.output)
    (g.W.ByteOut.contents c.write_times.new.output)
    (g.W.ByteOut.contents c.write_name-2.new.output)
    (g.W.ByteOut.failures c.write_sizes.new.output)
    (g.W.ByteOut.failures c.write_times.new.output)
    (g.W.ByteOut.failures c.write_name-2.new.output) tt (Err c.in_err-write_name-2.field-0.0)
    c.in_ok-write_times.ensures (writes_next
    (name_text (codes " C") (chroma_name c.args.depth c.args.head.now))
    (name_text (depth_name c.args.depth) (range_end c.args.head.now.range))
    (g.W.ByteOut.contents c.write_times.new.output)
    (g.W.ByteOut.contents c.write_name.new.output)
    (g.W.ByteOut.contents c.write_name-2.new.output)
    (g.W.ByteOut.failures c.write_times.new.output)
    (g.W.ByteOut.failures c.write_name.new.output)
    (g.W.ByteOut.failures c.write_name-2.new.output) tt (Err c.in_err-write_name-2.field-0.0)
    (rw c.chroma_name.ensures at c.in_ok-write_name.ensures)
    (rw (c.depth_name.ensures, c.range_end.ensures) at c.in_err-write_name-2.ensures))))
