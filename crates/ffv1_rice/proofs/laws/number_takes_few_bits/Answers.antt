-- A number takes few bits.
use Rattle.ffv1_rice.proofs.Codes.{some_number, length_number}
use Rattle.ffv1_rice.proofs.laws.number_takes_few_bits.Goals as goal

pub returns : goal.returns
returns c = record {
  some = λ bits k n. some_number bits k n;
  most = λ bits k n few. length_number bits k n few;
}
