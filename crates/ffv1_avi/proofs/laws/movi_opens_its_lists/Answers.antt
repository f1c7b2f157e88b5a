-- If every RIFF is read, the chunks of a list `rec ` in a movi are those of movi.
use Rattle.ffv1_avi.proofs.RecLists.{list_refused, rec_opened}
use Rattle.ffv1_avi.proofs.laws.movi_opens_its_lists.Goals as goal

pub returns : goal.returns
returns c = record { opened = rec_opened; other = list_refused }
