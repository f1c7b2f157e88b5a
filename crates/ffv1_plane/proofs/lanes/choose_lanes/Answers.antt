-- The numbers of the contexts of 16 places (RFC 9043, 3.5), and the residuals that an encoder takes
-- for their samples (3.8), modulo 512, each as `context`, `predict` and `residual_of` have it.
use Rattle.std.proofs.Common.{ℕ, sym, ◌≡◌, ap, ◌∙◌, pos, unsigned_abs, arith}
use Rattle.ffv1_plane.specs.Context.{flip_of}
use Rattle.ffv1_plane.specs.Prediction.{predicted}
use Rattle.ffv1_plane.specs.Residual.{chosen_of}
use Rattle.ffv1_plane.specs.Lanes.{modulo_512, difference_modulo}
use Rattle.ffv1_plane.proofs.LaneValues.{by_values}
use Rattle.ffv1_plane.proofs.LaneResiduals.{prediction_is, prediction_size, residual_is}
use Rattle.ffv1_plane.proofs.lanes.choose_lanes.Goals as goal

pub returns-clause-residuals : goal.returns-clause-residuals
returns-clause-residuals g c = λ places a s long is samples small.
    let set = c.args.set.now in
    let bits = c.args.bits in
    let p = λ (x : ℕ). unsigned_abs (predicted (a x)) in
    let differences = c.differ_lanes.ensures.differences places a s long is samples in
    by_values places _ _ (λ (x : ℕ). modulo_512
    (chosen_of bits (predicted (a x)) (flip_of set (a x)) (s x)))
    (c.fold_lanes.ensures places (λ (x : ℕ). difference_modulo (flip_of set (a x)) (p x) (s x)) long
    differences)
    (λ x.
    let size = prediction_size (a x) (is.samples x) in
    let value : pos (p x) ≡ predicted (a x) = ap pos (sym size) ∙ prediction_is (a x)
    (is.samples x) in
    rw (← value) (residual_is bits (flip_of set (a x)) (p x) (s x) c.requires.bits
    (omega (arith, size)) (small x)))
