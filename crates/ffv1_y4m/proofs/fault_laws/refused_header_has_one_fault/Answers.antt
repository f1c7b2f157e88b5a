-- A header that is refused has a first fault, which is the answer, and one with a first fault is
-- refused so.
use Rattle.ffv1_y4m.proofs.FirstFaults.{header_answered}
use Rattle.ffv1_y4m.proofs.HeaderFaults.{header_known, header_only, header_refused}
use Rattle.ffv1_y4m.proofs.fault_laws.refused_header_has_one_fault.Goals as goal

pub returns : goal.returns
returns c = record {
  answered = header_answered;
  known = header_known;
  refused = header_refused;
  only = header_only;
}
