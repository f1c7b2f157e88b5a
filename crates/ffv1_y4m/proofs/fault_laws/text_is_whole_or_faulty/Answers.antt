-- A text of YUV4MPEG2 is whole, or has one first fault, in one place.
use Rattle.ffv1_y4m.proofs.FaultPlaces.{text_inside}
use Rattle.ffv1_y4m.proofs.FirstFaults.{begins, goes_on, never_both, stops, text_only_fault}
use Rattle.ffv1_y4m.proofs.FirstFaults.{whole_or_fault}
use Rattle.ffv1_y4m.proofs.fault_laws.text_is_whole_or_faulty.Goals as goal

pub returns : goal.returns
returns c = record {
  begins = begins;
  next = goes_on;
  stops = stops;
  only = text_only_fault;
  some =
      whole_or_fault;
  none = never_both;
  inside = text_inside;
}
