-- Bytes are a record of one accepted configuration of a size at most, and that has one state
-- transition table.
use Rattle.std.proofs.Common.{◌-◌, length}
use Rattle.ffv1_record.proofs.RecordIsRead.{taken_bytes}
use Rattle.ffv1_record.proofs.RoundTrip.{one_configuration, one_table_for}
use Rattle.ffv1_record.proofs.laws.record_has_one_configuration.Goals as goal

pub returns-clause-one : goal.returns-clause-one
returns-clause-one c = λ bytes x y t u are is_x is_y wide high stored_x stored_y.
    one_configuration bytes (taken_bytes bytes (length bytes - 4) are) x y t u is_x is_y wide high
    stored_x stored_y

pub returns-clause-table : goal.returns-clause-table
returns-clause-table c = λ x t u p q. one_table_for x.coder t u p.table q.table
