-- Which fault `Config::check` tells: one of its own seven, the one of which the configuration does
-- not meet what it has to, and none of the faults of reading.
use Rattle.ffv1_record.specs.Accepted.{checks}
use Rattle.ffv1_record.proofs.RecordIsRead.{named_first, fails_first, none_stands}
use Rattle.ffv1_record.proofs.laws.first_fault_is_an_unmet_check.Goals as goal

pub returns-clause-named : goal.returns-clause-named
returns-clause-named c = λ p x f first. named_first p checks x f first

pub returns-clause-fails : goal.returns-clause-fails
returns-clause-fails c = λ p x f first passes. fails_first p checks x f first passes

pub returns-clause-passes : goal.returns-clause-passes
returns-clause-passes c = λ p x f passes first. none_stands p checks x f passes first
