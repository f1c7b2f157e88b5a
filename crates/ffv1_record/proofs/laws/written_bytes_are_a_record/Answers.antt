-- What is written of a configuration is its record, whatever the configuration.
use Rattle.std.proofs.Common.{refl}
use Rattle.ffv1_record.specs.Record.{coded_of}
use Rattle.ffv1_record.specs.Parity.{parity_of}
use Rattle.ffv1_record.proofs.WrittenIsRecord.{stored_record}
use Rattle.ffv1_record.proofs.laws.written_bytes_are_a_record.Goals as goal

pub returns : goal.returns
returns c = λ x. stored_record x (λ are. c.parity_makes_the_remainder_zero.ensures.small_parity
    (coded_of x) are) (λ are small. (c.parity_makes_the_remainder_zero.ensures.stored (coded_of x)
    (parity_of (coded_of x)) are small).1 refl)
