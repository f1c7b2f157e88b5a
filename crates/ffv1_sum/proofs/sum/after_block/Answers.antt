-- The sum after eight bytes more.
use Rattle.std.specs.Prelude.{bit_xor}
use Rattle.std.proofs.Common.{◌≡◌, ◌/◌, ◌%◌, ◌<◌, ◌^◌, ap, sym, ◌∙◌, arith}
use Rattle.std.proofs.lemmas.Nat.{and_mask, xor_lt}
use Rattle.ffv1_sum.specs.Sum.{bit_steps, entry_of}
use Rattle.ffv1_sum.proofs.Blocks.{block, eight, small_at}
use Rattle.ffv1_sum.proofs.sum.after_block.Goals as goal

pub entry-requires-8-clause-byte : goal.entry-requires-8-clause-byte
entry-requires-8-clause-byte c =
    let x = bit_xor c.from.result c.from_le_bytes.result in
    let below : x < 2 ^ 64 = xor_lt 64 c.from.result c.from_le_bytes.result
    (omega (arith, c.from.type_inv)) (omega (arith, c.from_le_bytes.type_inv)) in
    omega (arith, below)

pub returns : goal.returns
returns c =
    let x = bit_xor c.from.result c.from_le_bytes.result in
    let below : x < 2 ^ 64 = xor_lt 64 c.from.result c.from_le_bytes.result
    (omega (arith, c.from.type_inv)) (omega (arith, c.from_le_bytes.type_inv)) in
    let top : x / 72057594037927936 % 256 ≡ x / 72057594037927936 = omega (arith, below) in
    let m1 = and_mask x 8 in
    let m2 = and_mask (x / 256) 8 in
    let m3 = and_mask (x / 65536) 8 in
    let m4 = and_mask (x / 16777216) 8 in
    let m5 = and_mask (x / 4294967296) 8 in
    let m6 = and_mask (x / 1099511627776) 8 in
    let m7 = and_mask (x / 281474976710656) 8 in
    rw (
      c.entry.ensures ∙ ap (entry_of 7) m1,
      c.entry-2.ensures ∙ ap (entry_of 6) m2,
      c.entry-3.ensures ∙ ap (entry_of 5) m3,
      c.entry-4.ensures ∙ ap (entry_of 4) m4,
      c.entry-5.ensures ∙ ap (entry_of 3) m5,
      c.entry-6.ensures ∙ ap (entry_of 2) m6,
      c.entry-7.ensures ∙ ap (entry_of 1) m7,
      c.entry-8.ensures ∙ ap (entry_of 0) (sym top),
    ) (eight x below ∙ ap (λ s. bit_steps 64 (bit_xor s c.from_le_bytes.result)) c.from.ensures ∙
    ap (λ n. bit_steps 64 (bit_xor c.args.sum n)) c.from_le_bytes.ensures
    ∙ block c.args.sum c.args.block.now (omega arith) (omega (arith, c.told-block))
    (small_at c.args.block.now (λ k. omega (arith, c.fits-block k))))
