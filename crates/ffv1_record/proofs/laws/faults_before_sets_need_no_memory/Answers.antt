-- A fault that stands before the first set is answered whatever memory there is: the bytes are
-- refused with it, and `read_record` answers `OutOfMemory` for no such bytes.
use Rattle.std.proofs.Common.{◌-◌, length}
use Rattle.ffv1_record.proofs.RecordIsRead.{taken_bytes}
use Rattle.ffv1_record.proofs.BeforeSets.{refused_before, apart_before}
use Rattle.ffv1_record.proofs.laws.faults_before_sets_need_no_memory.Goals as goal

pub returns-clause-refused : goal.returns-clause-refused
returns-clause-refused c = refused_before

pub returns-clause-apart : goal.returns-clause-apart
returns-clause-apart c = λ p most bytes f are reaches refused. apart_before p most bytes
    (taken_bytes bytes (length bytes - 4) are) f reaches refused
