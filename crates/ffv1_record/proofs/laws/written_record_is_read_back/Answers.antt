-- What is written of an accepted configuration is read: it is its record, and no fault stands in
-- it.
use Rattle.ffv1_record.specs.Record.{record_of}
use Rattle.ffv1_record.proofs.WrittenIsRecord.{record_bytes}
use Rattle.ffv1_record.proofs.OneOutcome.{no_refusal}
use Rattle.ffv1_record.proofs.laws.written_record_is_read_back.Goals as goal

pub returns-clause-stored : goal.returns-clause-stored
returns-clause-stored c = λ x t is. c.written_bytes_are_a_record.ensures x

pub returns-clause-none : goal.returns-clause-none
returns-clause-none c = λ p x t most f is passes low refused. no_refusal p most (record_of x)
    (record_bytes x) x t f is passes low (c.written_bytes_are_a_record.ensures x) refused
