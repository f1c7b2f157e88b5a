-- A header of an image that is refused has a first fault, which is the answer, and one with a first
-- fault is refused so.
use Rattle.ffv1_y4m.proofs.HeaderParts.{image_header_known, image_header_only, image_header_refused}
use Rattle.ffv1_y4m.proofs.ImageFaults.{image_header_answered}
use Rattle.ffv1_y4m.proofs.fault_laws.refused_image_header_has_one_fault.Goals as goal

pub returns : goal.returns
returns c = record {
  answered = image_header_answered;
  known = image_header_known;
  refused =
      image_header_refused;
  only = image_header_only;
}
