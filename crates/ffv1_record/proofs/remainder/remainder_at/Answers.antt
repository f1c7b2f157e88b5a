-- The remainder of a byte, some bytes 0 after it, and 32 bits 0.
use Rattle.ffv1_record.proofs.Remainders.{table}
use Rattle.ffv1_record.proofs.remainder.remainder_at.Goals as goal

pub returns : goal.returns
returns c = table c.args.behind c.args.byte c.requires.behind c.requires.byte
