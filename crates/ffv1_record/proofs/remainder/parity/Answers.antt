-- The parity of bytes: the remainder of the bytes followed by 32 bits 0, on long division by the
-- generator 0x104C11DB7, the highest bit of each byte first (RFC 9043, 4.3.2 and 4.9.3).
use Rattle.std.proofs.Common.{◌≡◌, slice_index, ℕ, ◌+◌, ◌*◌, ◌^◌, ◌<◌, bit_xor, ◌/◌, ◌%◌, List, []}
use Rattle.std.proofs.Common.{length, get_or, ap, sym, ◌∙◌, arith}
use Rattle.ffv1_range.specs.Codes.{value}
use Rattle.ffv1_record.specs.Parity.{divided, parity_of}
use Rattle.ffv1_record.proofs.Division.{divided-zero}
use Rattle.ffv1_record.proofs.Numbers.{block_step, byte_step}
use Rattle.ffv1_record.proofs.remainder.parity.Goals as goal

pub loop-block-init : goal.loop-block-init
loop-block-init c = sym (divided-zero 0)

pub loop-block-preserved : goal.loop-block-preserved
loop-block-preserved c =
    let bytes = c.args.bytes.now in
    let i = c.loop-block.block-index in
    let count : length c.as_chunks.result.0.now ≡ length bytes / 16 =
    c.as_chunks.ensures.front_len in
    let inside : i < length bytes / 16 = rw (sym count) c.loop-block-test.true in
    let after : ℕ → List (List ℕ) → ℕ = λ r blocks. bit_xor (divided 128 (r * 2 ^ 128))
    (divided 128 (value (get_or blocks i []) 16 * 2 ^ 32)) in
    c.after_block-remainder.ensures ∙ ap (λ r. after r c.as_chunks.result.0.now)
    c.loop-block.invariant
    ∙ ap (after (divided (8 * (16 * i)) (value bytes (16 * i) * 2 ^ 32))) c.as_chunks.ensures.front
    ∙ block_step bytes i (λ k. omega (arith, c.type_inv.bytes k)) inside

pub loop-byte-preserved : goal.loop-byte-preserved
loop-byte-preserved c =
    let bytes = c.args.bytes.now in
    let i = c.loop-byte.byte-index in
    let done = length bytes / 16 * 16 in
    let after : ℕ → List ℕ → ℕ = λ r rest. bit_xor (divided 8 (r * 2 ^ 8))
    (divided 8 (slice_index rest i * 2 ^ 32)) in
    c.after_byte-remainder.ensures ∙ ap (λ r. after r c.as_chunks.result.1.now)
    c.loop-byte.invariant
    ∙ ap (after (divided (8 * (done + i)) (value bytes (done + i) * 2 ^ 32)))
    c.as_chunks.ensures.back ∙ byte_step bytes done i (λ k. omega (arith, c.type_inv.bytes k))

pub returns : goal.returns
unfolding parity_of
returns c =
    let bytes = c.args.bytes.now in
    let end : c.loop-byte.byte-index ≡ length bytes % 16 =
    omega (
      arith,
      c.loop-byte-test.false,
      c.loop-byte.auto.byte-index-end,
      c.as_chunks.ensures.back_len,
    ) in
    let all : length bytes / 16 * 16 + c.loop-byte.byte-index ≡ length bytes = omega (arith, end) in
    c.loop-byte.invariant ∙ ap (λ n. divided (8 * n) (value bytes n * 2 ^ 32)) all
