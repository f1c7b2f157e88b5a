-- Behind damage the search finds the first chunk of frames whose header was not changed.
use Rattle.ffv1_avi.proofs.SoughtFrames.{frame_sought}
use Rattle.ffv1_avi.proofs.damage_laws.the_next_frame_is_found.Goals as goal

pub returns : goal.returns
returns c = λ place window junk head rest eight begins few none. frame_sought place window junk head rest eight begins few none
