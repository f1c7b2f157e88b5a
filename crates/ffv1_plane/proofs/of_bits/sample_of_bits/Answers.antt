-- The sample of `bits` bits that a residual makes with its prediction, as `sample_from` has it for
-- 8 and 9, where `flip` tells whether the residual's sign was flipped (RFC 9043, 3.5 and 3.8), for
-- every `pred` and `residual`.
use Rattle.std.proofs.Common.{◌≡◌, ap, ◌∙◌, arith, pos, ◌+ℤ◌, ◌-ℤ◌, ◌^◌}
use Rattle.std.proofs.lemmas.Int.{ints}
use Rattle.std.specs.Int.{int_rem_euclid}
use Rattle.ffv1_plane.specs.Residual.{turned}
use Rattle.ffv1_plane.proofs.Words.{rem_of_word, wrapped_sum, wrapped_difference}
use Rattle.ffv1_plane.proofs.of_bits.sample_of_bits.Goals as goal

pub returns-then-flip-clause-value : goal.returns-then-flip-clause-value
returns-then-flip-clause-value c =
    let p = c.args.pred in
    let q = c.args.residual in
    let turns : p -ℤ q ≡ p +ℤ turned c.args.flip q = rw c.if-flip.true (omega (arith, ints)) in
    c.lowest_bits.ensures.value ∙ rem_of_word c.args.bits _ (p -ℤ q) (omega (arith, c.requires))
    (wrapped_difference p q c.ranges.pred c.ranges.residual)
    ∙ ap (λ v. int_rem_euclid v (pos (2 ^ c.args.bits))) turns

pub returns-clause-value : goal.returns-clause-value
returns-clause-value c =
    let p = c.args.pred in
    let q = c.args.residual in
    let same : p +ℤ q ≡ p +ℤ turned c.args.flip q = rw c.if-flip.false (omega (arith, ints)) in
    c.lowest_bits-2.ensures.value ∙ rem_of_word c.args.bits _ (p +ℤ q) (omega (arith, c.requires))
    (wrapped_sum p q c.ranges.pred c.ranges.residual)
    ∙ ap (λ v. int_rem_euclid v (pos (2 ^ c.args.bits))) same
