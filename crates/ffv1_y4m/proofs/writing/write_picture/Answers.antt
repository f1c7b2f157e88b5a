-- Writes a picture.
use Rattle.std.proofs.lemmas.Result.{err_from_is_err_and}
use Rattle.std.proofs.Common.{Err, flat_map}
use Rattle.ffv1_y4m.specs.Pictures.{frame_line}
use Rattle.ffv1_y4m.specs.State.{samples_of}
use Rattle.ffv1_y4m.proofs.Written.{writes_first, writes_next}
use Rattle.ffv1_y4m.proofs.writing.write_picture.Goals as goal

pub returns-in_err-write_part : goal.returns-in_err-write_part
returns-in_err-write_part g c =
    let p = err_from_is_err_and c.from_residual.result c.from_residual.ensures.1 in
    rw (p.1, p.2) (writes_first frame_line (flat_map (λ plane. plane)
    (samples_of c.args.planes.now)) (g.W.ByteOut.contents c.args.output.now)
    (g.W.ByteOut.contents c.write_part.new.output) (g.W.ByteOut.failures c.args.output.now)
    (g.W.ByteOut.failures c.write_part.new.output) c.in_err-write_part.field-0.0
    c.in_err-write_part.ensures)

pub returns-in_err-write_planes : goal.returns-in_err-write_planes
returns-in_err-write_planes g c =
    let p = err_from_is_err_and c.from_residual-in_err-write_planes.result
    c.from_residual-in_err-write_planes.ensures.1 in
    rw (p.1, p.2) (writes_next frame_line (flat_map (λ plane. plane) (samples_of c.args.planes.now))
    (g.W.ByteOut.contents c.args.output.now) (g.W.ByteOut.contents c.write_part.new.output)
    (g.W.ByteOut.contents c.write_planes.new.output) (g.W.ByteOut.failures c.args.output.now)
    (g.W.ByteOut.failures c.write_part.new.output)
    (g.W.ByteOut.failures c.write_planes.new.output) tt (Err c.in_err-write_planes.field-0.0)
    c.in_ok-write_part.ensures c.in_err-write_planes.ensures)
