-- Reads the samples of a plane, `size` bytes of them, in place of what the vector had.
use Rattle.std.proofs.Common.{◌≡◌, ◌∙◌, sym, true, length, drop, arith}
use Rattle.std.proofs.Math.Seq.{take-append_seam}
use Rattle.std.proofs.lemmas.Result.{err_from_is_err_and}
use Rattle.std.proofs.lemmas.Grind.{common_steps}
use Rattle.ffv1_samples.specs.Samples.{are_in_depth}
use Rattle.ffv1_y4m.specs.Pictures.{plane_read}
use Rattle.ffv1_y4m.proofs.Colours.{stands_full}
use Rattle.ffv1_y4m.proofs.PlaneByPlane.{plane_failed, plane_full, plane_short}
use Rattle.ffv1_y4m.proofs.reading.read_plane.Goals as goal

pub returns-in_err-resize-clause-answer : goal.returns-in_err-resize-clause-answer
returns-in_err-resize-clause-answer g c =
    let p = err_from_is_err_and c.from_residual.result c.from_residual.ensures.1 in
    rw (p.1, p.2) (stands_full (plane_read c.args.depth c.args.size) _ _)

pub returns-in_err-len-clause-answer : goal.returns-in_err-len-clause-answer
returns-in_err-len-clause-answer g c =
    let p = err_from_is_err_and c.from_residual-in_err-len.result
    c.from_residual-in_err-len.ensures.1 in
    let long : length c.read_full.new.buf ≡ c.args.size =
    omega (arith, c.in_ok-resize.ensures.len) in
    rw (p.1, p.2) (plane_failed c.args.depth c.args.size _ _ _ _ c.read_full.new.buf long
    c.in_err-len.ensures.err c.in_err-len.ensures.counted)

pub returns-then-len-size-clause-answer : goal.returns-then-len-size-clause-answer
returns-then-len-size-clause-answer g c =
    let long : length c.read_full.new.buf ≡ c.args.size =
    omega (arith, c.in_ok-resize.ensures.len) in
    plane_short c.args.depth c.args.size c.in_ok-len.len _ _ _ _ c.read_full.new.buf long
    c.if-len-size.true c.in_ok-len.ensures.ok c.in_ok-len.ensures.counted

pub returns-clause-answer : goal.returns-clause-answer
returns-clause-answer g c =
    let long : length c.read_full.new.buf ≡ c.args.size =
    omega (arith, c.in_ok-resize.ensures.len) in
    let same : c.resize.new.self.len ≡ length c.read_full.new.buf = omega arith in
    let whole = take-append_seam c.read_full.new.buf
    (drop (length c.read_full.new.buf) c.resize.new.self.items) in
    let items : c.deref.result.now ≡ c.read_full.new.buf = c.deref.ensures.value ∙
    (rw same whole) in
    let within : are_in_depth c.args.depth c.read_full.new.buf ≡ true = rw items at
    (sym c.if-not-are_in_depth.ensures) in
    rw (same, whole) (plane_full c.args.depth c.args.size c.in_ok-len.len _ _ _ _
    c.read_full.new.buf long c.if-len-size.false c.in_ok-len.ensures.ok
    c.in_ok-len.ensures.counted within)

pub returns-then-not-are_in_depth-clause-answer : goal.returns-then-not-are_in_depth-clause-answer
returns-then-not-are_in_depth-clause-answer g c = grind (arith, common_steps)
