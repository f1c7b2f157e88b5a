-- The residual that an encoder takes for a sample of `bits` bits, as `residual_of` has it for 8 and
-- 9: the difference to the prediction, its sign flipped where `flip` holds (RFC 9043, 3.5), then
-- folded (3.8), for every `pred` and `sample`.
use Rattle.std.proofs.Common.{◌≡◌, refl, ap, ◌∙◌, arith, pos, ◌-ℤ◌}
use Rattle.std.proofs.lemmas.Int.{ints}
use Rattle.std.specs.Int.{w32}
use mir.Val.{to_z, of_z}
use Rattle.ffv1_plane.specs.Residual.{turned, folded}
use Rattle.ffv1_plane.proofs.Remainders.{wrapped_sub}
use Rattle.ffv1_plane.proofs.Words.{folded_near_word, wrapped_below}
use Rattle.ffv1_plane.proofs.of_bits.residual_of_bits.Goals as goal

pub returns-then-flip-clause-value : goal.returns-then-flip-clause-value
returns-then-flip-clause-value c =
    let same : to_z w32 (of_z w32 c.fold_to_bits.result) ≡ c.fold_to_bits.result = omega (arith, ints) in
    let turns : c.args.pred -ℤ pos c.args.sample ≡ turned c.args.flip
    (pos c.args.sample -ℤ c.args.pred) = rw c.if-flip.true (omega (arith, ints)) in
    same ∙ c.fold_to_bits.ensures.value ∙ folded_near_word c.args.bits _ _
    (omega (arith, c.requires.few)) (wrapped_sub c.args.pred c.args.sample c.ranges.pred
    (omega arith))
    ∙ ap (folded c.args.bits) turns

pub returns-clause-value : goal.returns-clause-value
returns-clause-value c =
    let same : to_z w32 (of_z w32 c.fold_to_bits-2.result) ≡ c.fold_to_bits-2.result =
    omega (arith, ints) in
    let turns : pos c.args.sample -ℤ c.args.pred ≡ turned c.args.flip
    (pos c.args.sample -ℤ c.args.pred) = rw c.if-flip.false refl in
    same ∙ c.fold_to_bits-2.ensures.value ∙ folded_near_word c.args.bits _ _
    (omega (arith, c.requires.few)) (wrapped_below c.args.pred c.args.sample c.ranges.pred
    (omega arith))
    ∙ ap (folded c.args.bits) turns
