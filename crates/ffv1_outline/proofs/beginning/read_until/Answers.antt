-- Reads until `buf` is full, the input has ended or a read fails.
use Rattle.std.proofs.Common.{arith, ◌∙◌}
use Rattle.std.proofs.lemmas.Grind.{common_steps}
use Rattle.ffv1_wire.proofs.Bytes.{consumes_step}
use Rattle.ffv1_outline.proofs.beginning.read_until.Goals as goal

pub loop-done-preserved : goal.loop-done-preserved
loop-done-preserved g c =
    let h = c.in-Ok.ensures in
    let old = c.loop-done.invariant in (
      grind (arith, common_steps, h.bound, old.0),
      consumes_step _ _ _ c.loop-done.buf c.read.new.buf
          c.loop-done.done c.in-Ok.n old.0 h.bound.0 old.1 h.bytes.0,
      h.counted ∙ old.2,
    )
