-- The same of samples of 10 to 15 bits, but that each residual has `2^(bits - 1)` added.
use Rattle.std.proofs.Common.{ℕ, sym, ◌≡◌, ap, ◌∙◌, pos, unsigned_abs, arith}
use Rattle.ffv1_plane.specs.Context.{flip_of}
use Rattle.ffv1_plane.specs.Prediction.{predicted}
use Rattle.ffv1_plane.specs.Residual.{chosen_of}
use Rattle.ffv1_plane.specs.Lanes.{raised_residual, difference_modulo}
use Rattle.ffv1_plane.proofs.LaneValues.{by_values}
use Rattle.ffv1_plane.proofs.LaneResiduals.{prediction_is, prediction_size, raised_is}
use Rattle.ffv1_plane.proofs.lanes.choose_lanes_of_bits.Goals as goal

pub returns-clause-residuals : goal.returns-clause-residuals
returns-clause-residuals g c = λ places a s long is samples small.
    let set = c.args.set.now in
    let bits = c.args.bits in
    let p = λ (x : ℕ). unsigned_abs (predicted (a x)) in
    let differences = c.differ_lanes.ensures.differences places a s long is samples in
    by_values places _ _ (λ (x : ℕ). raised_residual bits
    (chosen_of bits (predicted (a x)) (flip_of set (a x)) (s x)))
    (c.raise_lanes.ensures places (λ (x : ℕ). difference_modulo (flip_of set (a x)) (p x) (s x)) long
    differences)
    (λ x.
    let size = prediction_size (a x) (is.samples x) in
    let value : pos (p x) ≡ predicted (a x) = ap pos (sym size) ∙ prediction_is (a x)
    (is.samples x) in
    rw (← value) (raised_is bits (flip_of set (a x)) (p x) (s x) c.requires.some c.requires.bits
    (omega (arith, size)) (small x)))
