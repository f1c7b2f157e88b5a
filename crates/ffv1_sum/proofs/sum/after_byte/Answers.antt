-- The sum after a byte more.
use Rattle.std.specs.Prelude.{bit_and, bit_xor}
use Rattle.std.proofs.Common.{◌/◌, ap, ◌∙◌, arith}
use Rattle.std.proofs.lemmas.Nat.{and_mask}
use Rattle.ffv1_sum.specs.Sum.{entry_of}
use Rattle.ffv1_sum.proofs.Blocks.{one}
use Rattle.ffv1_sum.proofs.sum.after_byte.Goals as goal

pub returns : goal.returns
returns c =
    ap (bit_xor (c.args.sum / 256))
    (c.entry.ensures ∙ ap (λ b. entry_of 0 (bit_and (bit_xor c.args.sum b) 255)) c.from.ensures ∙
    ap (entry_of 0) (and_mask (bit_xor c.args.sum c.args.byte) 8))
    ∙ one c.args.sum c.args.byte (omega arith)
