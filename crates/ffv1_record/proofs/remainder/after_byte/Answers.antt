-- The remainder of some bytes, one more and 32 bits 0, from the remainder of the bytes and 32 bits
-- 0.
use Rattle.std.proofs.Common.{◌*◌, bit_xor, ◌%◌, ap, ◌∙◌, arith}
use Rattle.ffv1_record.proofs.Remainders.{single}
use Rattle.ffv1_record.proofs.remainder.after_byte.Goals as goal

-- src/remainder.rt:35:1
pub returns : goal.returns
returns c =
    ap (bit_xor (c.args.remainder * 256 % 4294967296)) c.remainder_at.ensures
    ∙ single c.args.remainder c.args.byte (omega arith) (omega arith)
