-- If there is no fault, the pictures are those of the frames in turn.
use Rattle.ffv1_unpack.proofs.SalvageLaws.{sound_alike}
use Rattle.ffv1_unpack.proofs.laws.sound_frames_are_unpacked_alike.Goals as goal

pub returns : goal.returns
returns c = λ ppm xs none. sound_alike ppm xs none
