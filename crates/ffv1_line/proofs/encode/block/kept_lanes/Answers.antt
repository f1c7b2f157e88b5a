-- The numbers of the contexts of 16 places, and their residuals as a block has them.
use Rattle.std.proofs.Common.{ℕ, arith}
use Rattle.ffv1_plane.specs.Context.{flip_of}
use Rattle.ffv1_plane.specs.Prediction.{predicted}
use Rattle.ffv1_plane.specs.Residual.{chosen_of}
use Rattle.ffv1_plane.proofs.LaneValues.{by_values}
use Rattle.ffv1_line.specs.Internal.Parts.{kept_of}
use Rattle.ffv1_line.proofs.lemmas.encode.BlockLanes.{kept_nine, kept_deep, nine_or}
use Rattle.ffv1_line.proofs.encode.block.kept_lanes.Goals as goal

pub choose_lanes-requires-clause-bits : goal.choose_lanes-requires-clause-bits
choose_lanes-requires-clause-bits g c =
    nine_or c.args.bits c.requires.bits.least (omega (arith, c.if-bits-gt9.false))

pub returns-then-bits-gt9-clause-residuals : goal.returns-then-bits-gt9-clause-residuals
returns-then-bits-gt9-clause-residuals g c = λ places a s long is samples small.
    let bits = c.args.bits in
    by_values places _ _ (λ (x : ℕ). kept_of bits
    (chosen_of bits (predicted (a x)) (flip_of c.args.set.now (a x)) (s x)))
    (c.choose_lanes_of_bits.ensures.residuals places a s long is samples small)
    (λ x. kept_deep bits _ (omega (arith, c.if-bits-gt9.true)))

pub returns-clause-residuals : goal.returns-clause-residuals
returns-clause-residuals g c = λ places a s long is samples small.
    let bits = c.args.bits in
    by_values places _ _ (λ (x : ℕ). kept_of bits
    (chosen_of bits (predicted (a x)) (flip_of c.args.set.now (a x)) (s x)))
    (c.choose_lanes.ensures.residuals places a s long is samples small)
    (λ x. kept_nine bits _ (omega (arith, c.if-bits-gt9.false)))
