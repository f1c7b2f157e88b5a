-- The prediction of a sample among samples of `bits` bits, modulo 2^32.
use Rattle.std.proofs.Common.{arith}
use Rattle.ffv1_plane.specs.Prediction.{signed, predicted_signed}
use Rattle.ffv1_plane.specs.Wide.{around_of}
use Rattle.ffv1_plane.proofs.WideWords.{median_less, wrapped_less}
use Rattle.ffv1_plane.proofs.wide.prediction_of.Goals as goal

pub returns-then-bits-eq16 : goal.returns-then-bits-eq16
returns-then-bits-eq16 c =
    let a = c.args.around.now in
    let less = median_less (signed a.l) (signed a.t) (signed a.tl) _ _ _ c.median_of.result 65536
    c.raised.ensures c.raised-then-bits-eq16.ensures c.raised-then-bits-eq16-2.ensures
    c.median_of.ensures in
    rw c.if-bits-eq16.true (wrapped_less c.median_of.result (predicted_signed (around_of a))
    (omega arith) less)
