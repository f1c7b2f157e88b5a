-- If the bytes are known, a call that was refused in an element after others, other than by a
-- read that failed or by memory, says where the fault is. The bytes begin with elements of so many
-- bytes that are read whole, and the next one has the fault.
use Rattle.ffv1_reads.proofs.FirstFaults.{known_fault, one_fault}
use Rattle.ffv1_reads.proofs.laws.refusal_says_where_the_fault_is.Goals as goal

pub returns-clause-known : goal.returns-clause-known
returns-clause-known g c = λ element from text new before after f to count stops failed refused.
    known_fault element from text new before after f to count stops failed refused

pub returns-clause-only : goal.returns-clause-only
returns-clause-only g c = λ element from text f g m n one other. one_fault element from text f g m n
    one other
