-- After the last RIFF no other file may begin.
use Rattle.ffv1_avi.proofs.AfterLaws.{file_after, form_after, small_after}
use Rattle.ffv1_avi.proofs.EdgeLaws.{owed_other}
use Rattle.ffv1_avi.proofs.GivenFrames.{gives_refused}
use Rattle.ffv1_avi.proofs.laws.only_riffs_follow_riffs.Goals as goal

pub returns : goal.returns
returns c = record {
  file = file_after;
  form = form_after;
  small = small_after;
  owed = owed_other;
  refused = gives_refused;
}
