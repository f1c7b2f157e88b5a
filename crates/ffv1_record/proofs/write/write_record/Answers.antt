-- The configuration record (RFC 9043, 4.3): the parameters by the full ending, and their parity,
-- big end first.
use Rattle.ffv1_record.proofs.write.write_record.Goals as goal

pub returns-clause-stored : goal.returns-clause-stored
returns-clause-stored g c = rw c.in_ok-bytes.ensures.ok
    (c.written_bytes_are_a_record.ensures c.args.checked.now.configuration)
