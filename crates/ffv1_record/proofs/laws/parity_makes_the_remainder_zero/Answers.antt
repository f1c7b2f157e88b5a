-- Bytes followed by four more have the remainder 0 exactly where the four are their parity, big end
-- first; and the parity of bytes is 0 exactly where their remainder is.
use Rattle.ffv1_record.proofs.ParityLaws.{stored, parity_zero, remainder_small, parity_small}
use Rattle.ffv1_record.proofs.laws.parity_makes_the_remainder_zero.Goals as goal

-- src/laws.rt:9:1
pub returns-clause-stored : goal.returns-clause-stored
returns-clause-stored c = λ bytes n are small. stored bytes n small

pub returns-clause-zero : goal.returns-clause-zero
returns-clause-zero c = parity_zero

pub returns-clause-small : goal.returns-clause-small
returns-clause-small c = remainder_small

pub returns-clause-small_parity : goal.returns-clause-small_parity
returns-clause-small_parity c = parity_small
