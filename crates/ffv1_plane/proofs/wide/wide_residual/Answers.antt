-- The residual that an encoder takes for a sample of `bits` bits beside these neighbours: the
-- difference to the prediction (RFC 9043, 3.3), its sign flipped where `flip` holds (3.5), then
-- folded (3.8), for all neighbours and every `sample`.
use Rattle.std.proofs.Common.{◌≡◌, ap, ◌∙◌, arith, to_z, of_z}
use Rattle.std.proofs.lemmas.Int.{ints}
use Rattle.std.specs.Int.{w32}
use Rattle.ffv1_plane.specs.Prediction.{predicted_in}
use Rattle.ffv1_plane.specs.Residual.{folded}
use Rattle.ffv1_plane.specs.Wide.{around_of}
use Rattle.ffv1_plane.proofs.WideWords.{above_near, below_near, folded_near, turned_above}
use Rattle.ffv1_plane.proofs.WideWords.{turned_below}
use Rattle.ffv1_plane.proofs.wide.wide_residual.Goals as goal

pub returns-then-flip : goal.returns-then-flip
returns-then-flip c =
    let p = predicted_in c.args.bits (around_of c.args.around.now) in
    let is = c.prediction_of-prediction.ensures in
    let same : to_z w32 (of_z w32 c.fold_of.result) ≡ c.fold_of.result = omega (arith, ints) in
    record {
      value = same ∙ c.fold_of.ensures.value
          ∙ folded_near c.args.bits _ _ (omega (arith, c.requires.few))
          (above_near p c.prediction_of-prediction.result c.args.sample is.0 is.1 (omega arith))
          ∙ ap (folded c.args.bits) (turned_above p c.args.sample c.args.flip c.if-flip.true);
      size = rw same c.fold_of.ensures.size;
    }

pub returns : goal.returns
returns c =
    let p = predicted_in c.args.bits (around_of c.args.around.now) in
    let is = c.prediction_of-prediction.ensures in
    let same : to_z w32 (of_z w32 c.fold_of-2.result) ≡ c.fold_of-2.result = omega (arith, ints) in
    record {
      value = same ∙ c.fold_of-2.ensures.value
          ∙ folded_near c.args.bits _ _ (omega (arith, c.requires.few))
          (below_near p c.prediction_of-prediction.result c.args.sample is.0 is.1 (omega arith))
          ∙ ap (folded c.args.bits) (turned_below p c.args.sample c.args.flip c.if-flip.false);
      size = rw same c.fold_of-2.ensures.size;
    }
