-- The sample of `bits` bits that a residual makes beside these neighbours, where `flip` tells
-- whether the residual's sign was flipped (RFC 9043, 3.3, 3.5 and 3.8), for all neighbours and
-- every `residual`.
use Rattle.std.proofs.Common.{◌≡◌, ap, ◌∙◌, arith, pos, ◌^◌, to_z, of_z}
use Rattle.std.proofs.lemmas.Int.{ints}
use Rattle.std.specs.Int.{int_rem_euclid, w32}
use Rattle.ffv1_plane.specs.Prediction.{predicted_in}
use Rattle.ffv1_plane.specs.Wide.{around_of}
use Rattle.ffv1_plane.proofs.WideWords.{sum_near, difference_near, lowest_near, turned_less}
use Rattle.ffv1_plane.proofs.WideWords.{turned_more}
use Rattle.ffv1_plane.proofs.wide.wide_sample.Goals as goal

pub returns-then-flip-clause-value : goal.returns-then-flip-clause-value
returns-then-flip-clause-value c =
    let p = predicted_in c.args.bits (around_of c.args.around.now) in
    let q = c.args.residual in
    let is = c.prediction_of-prediction.ensures in
    let same : to_z w32 (of_z w32 q) ≡ q = omega (arith, ints) in
    ap pos c.lowest_of.ensures.value ∙ lowest_near c.args.bits _ _ (omega (arith, c.requires))
    (difference_near p q c.prediction_of-prediction.result _ is.0 is.1 c.ranges.residual
    (c.cast_unsigned-residual.ensures ∙ ap (of_z w32) same))
    ∙ ap (λ v. int_rem_euclid v (pos (2 ^ c.args.bits)))
    (turned_less p q c.args.flip c.if-flip.true)

pub returns-clause-value : goal.returns-clause-value
returns-clause-value c =
    let p = predicted_in c.args.bits (around_of c.args.around.now) in
    let q = c.args.residual in
    let is = c.prediction_of-prediction.ensures in
    let same : to_z w32 (of_z w32 q) ≡ q = omega (arith, ints) in
    ap pos c.lowest_of-2.ensures.value ∙ lowest_near c.args.bits _ _ (omega (arith, c.requires))
    (sum_near p q c.prediction_of-prediction.result _ is.0 is.1 c.ranges.residual
    (c.cast_unsigned-residual.ensures ∙ ap (of_z w32) same))
    ∙ ap (λ v. int_rem_euclid v (pos (2 ^ c.args.bits)))
    (turned_more p q c.args.flip c.if-flip.false)
