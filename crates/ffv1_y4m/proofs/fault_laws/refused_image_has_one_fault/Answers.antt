-- `refused_image_has_one_fault`: the same of an image, by `PpmReader::next` if no memory was
-- refused. Of the first one, whose header was read before, the fault is that of its samples.
use Rattle.ffv1_y4m.proofs.ImageFaults.{first_image_answered, image_answered, image_known}
use Rattle.ffv1_y4m.proofs.ImageFaults.{image_only, image_refused, samples_only}
use Rattle.ffv1_y4m.proofs.fault_laws.refused_image_has_one_fault.Goals as goal

pub returns : goal.returns
returns c = record {
  first = first_image_answered;
  answered = image_answered;
  known = image_known;
  refused = image_refused;
  only = image_only;
  samples = samples_only;
}
