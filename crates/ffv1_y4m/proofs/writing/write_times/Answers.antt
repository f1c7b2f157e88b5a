-- Writes the rate, the structure and the aspect of a header.
use Rattle.std.proofs.lemmas.Result.{err_from_is_err_and}
use Rattle.std.proofs.Common.{Err, ◌++◌, codes}
use Rattle.ffv1_y4m.specs.Canonical.{ratio_text, name_text, structure_name, times_text}
use Rattle.ffv1_y4m.proofs.Written.{writes_first, writes_next}
use Rattle.ffv1_y4m.proofs.writing.write_times.Goals as goal

pub returns-in_err-write_ratio : goal.returns-in_err-write_ratio
unfolding times_text
returns-in_err-write_ratio g c =
    let p = err_from_is_err_and c.from_residual.result c.from_residual.ensures.1 in
    rw (p.1, p.2) (writes_first (ratio_text (codes " F") c.args.head.now.rate c.args.head.now.scale)
    ((name_text (codes " I") (structure_name c.args.head.now.structure)) ++
    (ratio_text (codes " A") c.args.head.now.sar_num c.args.head.now.sar_den))
    (g.W.ByteOut.contents c.args.output.now) (g.W.ByteOut.contents c.write_ratio.new.output)
    (g.W.ByteOut.failures c.args.output.now) (g.W.ByteOut.failures c.write_ratio.new.output)
    c.in_err-write_ratio.field-0.0 c.in_err-write_ratio.ensures)

pub returns-in_err-write_name : goal.returns-in_err-write_name
unfolding times_text
returns-in_err-write_name g c =
    let p = err_from_is_err_and c.from_residual-in_err-write_name.result
    c.from_residual-in_err-write_name.ensures.1 in
    rw (p.1, p.2) (writes_next (ratio_text (codes " F") c.args.head.now.rate c.args.head.now.scale)
    ((name_text (codes " I") (structure_name c.args.head.now.structure)) ++
    (ratio_text (codes " A") c.args.head.now.sar_num c.args.head.now.sar_den))
    (g.W.ByteOut.contents c.args.output.now) (g.W.ByteOut.contents c.write_ratio.new.output)
    (g.W.ByteOut.contents c.write_name.new.output) (g.W.ByteOut.failures c.args.output.now)
    (g.W.ByteOut.failures c.write_ratio.new.output)
    (g.W.ByteOut.failures c.write_name.new.output) tt (Err c.in_err-write_name.field-0.0)
    c.in_ok-write_ratio.ensures (writes_first
    (name_text (codes " I") (structure_name c.args.head.now.structure))
    (ratio_text (codes " A") c.args.head.now.sar_num c.args.head.now.sar_den)
    (g.W.ByteOut.contents c.write_ratio.new.output)
    (g.W.ByteOut.contents c.write_name.new.output)
    (g.W.ByteOut.failures c.write_ratio.new.output)
    (g.W.ByteOut.failures c.write_name.new.output) c.in_err-write_name.field-0.0
    (rw c.structure_name.ensures at c.in_err-write_name.ensures)))

pub returns-in_err-write_ratio-2 : goal.returns-in_err-write_ratio-2
unfolding times_text
returns-in_err-write_ratio-2 g c =
    let p = err_from_is_err_and c.from_residual-in_err-write_ratio-2.result
    c.from_residual-in_err-write_ratio-2.ensures.1 in
    rw (p.1, p.2) (writes_next (ratio_text (codes " F") c.args.head.now.rate c.args.head.now.scale)
    ((name_text (codes " I") (structure_name c.args.head.now.structure)) ++
    (ratio_text (codes " A") c.args.head.now.sar_num c.args.head.now.sar_den))
    (g.W.ByteOut.contents c.args.output.now) (g.W.ByteOut.contents c.write_ratio.new.output)
    (g.W.ByteOut.contents c.write_ratio-2.new.output) (g.W.ByteOut.failures c.args.output.now)
    (g.W.ByteOut.failures c.write_ratio.new.output)
    (g.W.ByteOut.failures c.write_ratio-2.new.output) tt (Err c.in_err-write_ratio-2.field-0.0)
    c.in_ok-write_ratio.ensures (writes_next
    (name_text (codes " I") (structure_name c.args.head.now.structure))
    (ratio_text (codes " A") c.args.head.now.sar_num c.args.head.now.sar_den)
    (g.W.ByteOut.contents c.write_ratio.new.output)
    (g.W.ByteOut.contents c.write_name.new.output)
    (g.W.ByteOut.contents c.write_ratio-2.new.output)
    (g.W.ByteOut.failures c.write_ratio.new.output)
    (g.W.ByteOut.failures c.write_name.new.output)
    (g.W.ByteOut.failures c.write_ratio-2.new.output) tt (Err c.in_err-write_ratio-2.field-0.0)
    (rw c.structure_name.ensures at c.in_ok-write_name.ensures)
    (rw (c.from.ensures, c.from-2.ensures) at c.in_err-write_ratio-2.ensures)))
