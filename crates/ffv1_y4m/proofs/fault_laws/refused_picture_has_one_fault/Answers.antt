-- `refused_picture_has_one_fault`: the same of the picture that a text begins with, and of
-- `Y4mReader::next` if no memory was refused.
use Rattle.ffv1_y4m.proofs.FirstFaults.{picture_answered}
use Rattle.ffv1_y4m.proofs.PictureFaults.{picture_known, picture_only, picture_refused}
use Rattle.ffv1_y4m.proofs.fault_laws.refused_picture_has_one_fault.Goals as goal

pub returns : goal.returns
returns c = record {
  answered = picture_answered;
  known = picture_known;
  refused = picture_refused;
  only = picture_only;
}
