-- The remainder of some bytes, sixteen more and 32 bits 0, from the remainder of the bytes and 32
-- bits 0.
use Rattle.std.proofs.Common.{rules, ◌≡◌, refl, slice_index, ℕ, ◌+◌, ◌*◌, ◌^◌, bit_xor, ap, ◌∙◌}
use Rattle.std.proofs.Common.{arith}
use Rattle.std.proofs.lemmas.Grind.{common_steps}
use Rattle.ffv1_range.specs.Codes.{value}
use Rattle.ffv1_record.specs.Parity.{divided}
use Rattle.ffv1_record.proofs.Remainders.{block}
use Rattle.ffv1_record.proofs.remainder.after_block.Goals as goal

-- src/remainder.rt:19:1
pub returns : goal.returns
returns c =
    let xs = c.args.block.now in
    let low : ℕ = slice_index xs 4 * 2 ^ 88 + slice_index xs 5 * 2 ^ 80 + slice_index xs 6 * 2 ^ 72
    + slice_index xs 7 * 2 ^ 64 + slice_index xs 8 * 2 ^ 56 + slice_index xs 9 * 2 ^ 48 +
    slice_index xs 10 * 2 ^ 40 + slice_index xs 11 * 2 ^ 32 + slice_index xs 12 * 2 ^ 24 +
    slice_index xs 13 * 2 ^ 16 + slice_index xs 14 * 2 ^ 8 + slice_index xs 15 in
    let all = block c.args.remainder c.from_be_bytes.result low (slice_index xs 4)
    (slice_index xs 5) (slice_index xs 6) (slice_index xs 7) (slice_index xs 8)
    (slice_index xs 9) (slice_index xs 10) (slice_index xs 11) (slice_index xs 12)
    (slice_index xs 13) (slice_index xs 14) (slice_index xs 15)
    (search rules) (search rules) (search rules) (search rules) (search rules) (search rules)
    (search rules) (search rules) (search rules) (search rules) (search rules) (search rules)
    (search rules) (search rules) refl in
    let number : c.from_be_bytes.result * 2 ^ 96 + low ≡ value xs 16 =
    omega (arith, c.from_be_bytes.ensures) in
    rw (
      c.remainder_at.ensures,
      c.remainder_at-2.ensures,
      c.remainder_at-3.ensures,
      c.remainder_at-4.ensures,
      c.remainder_at-5.ensures,
      c.remainder_at-6.ensures,
      c.remainder_at-7.ensures,
      c.remainder_at-8.ensures,
      c.remainder_at-9.ensures,
      c.remainder_at-10.ensures,
      c.remainder_at-11.ensures,
      c.remainder_at-12.ensures,
      c.remainder_at-13.ensures,
      c.remainder_at-14.ensures,
      c.remainder_at-15.ensures,
      c.remainder_at-16.ensures,
    )
    (all ∙ ap (λ x. bit_xor (divided 128 (c.args.remainder * 2 ^ 128)) (divided 128 (x * 2 ^ 32)))
    number)

pub overflow_cast-first : goal.overflow_cast-first
overflow_cast-first c = grind (arith, common_steps)
