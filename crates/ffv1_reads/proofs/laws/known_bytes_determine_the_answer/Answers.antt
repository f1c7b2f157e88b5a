-- If the bytes are known, a value that a call answers is what they read as, and a fault is the
-- first that they have; what is left is known too.
use Rattle.ffv1_reads.proofs.KnownLaws.{known_end, known_end_fault, known_fault, known_fault_there}
use Rattle.ffv1_reads.proofs.KnownLaws.{known_lack, known_read, known_stop}
use Rattle.ffv1_reads.proofs.laws.known_bytes_determine_the_answer.Goals as goal

pub returns : goal.returns
returns g c = record {
  read = known_read;
  fault = known_fault;
  stopped = known_lack;
  ends =
      known_end;
  stops = known_stop;
  end_fault = known_end_fault;
  fault_there = known_fault_there;
}
