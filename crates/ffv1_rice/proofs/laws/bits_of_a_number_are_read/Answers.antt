-- Bits that begin with a number are read.
use Rattle.ffv1_rice.proofs.Codes.{number_ends_not, bad_not, one_reason}
use Rattle.ffv1_rice.proofs.laws.bits_of_a_number_are_read.Goals as goal

pub returns : goal.returns
returns c = record {
  whole = λ bits k n text rest small begins ends. number_ends_not bits k n text rest small begins
      ends;
  good = λ bits k n text rest small begins bad. bad_not bits k n text rest small begins bad;
  one_reason = λ bits k text ends bad. one_reason bits k text ends bad;
}
