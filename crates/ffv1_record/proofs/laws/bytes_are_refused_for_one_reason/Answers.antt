-- Bytes are refused for one reason at most, and none that are a record of an accepted configuration
-- of a depth up to the greatest one.
use Rattle.std.proofs.Common.{◌-◌, length}
use Rattle.ffv1_record.proofs.RecordIsRead.{taken_bytes}
use Rattle.ffv1_record.proofs.OneOutcome.{one_refusal, no_refusal}
use Rattle.ffv1_record.proofs.laws.bytes_are_refused_for_one_reason.Goals as goal

pub returns-clause-one : goal.returns-clause-one
returns-clause-one c = λ k most bytes width height f g are p q. one_refusal k most bytes
    (taken_bytes bytes (length bytes - 4) are) width height f g p q

pub returns-clause-none : goal.returns-clause-none
returns-clause-none c = λ k most bytes x t f are is passes low stored refused. no_refusal k most
    bytes (taken_bytes bytes (length bytes - 4) are) x t f is passes low stored refused
