-- If every RIFF is read, a movi holds only what a name lists.
use Rattle.ffv1_avi.proofs.ListedNames.{barred_refused, frames_named, listed_named, named_listed}
use Rattle.ffv1_avi.proofs.ListedNames.{unsized_refused}
use Rattle.ffv1_avi.proofs.laws.movi_holds_listed_chunks.Goals as goal

pub returns : goal.returns
returns c = record {
  frames = frames_named;
  listed = listed_named;
  barred = named_listed;
  refused = barred_refused;
  any_size = unsized_refused;
}
