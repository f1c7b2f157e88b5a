-- There are as many pictures as frames, less those before the first good one.
use Rattle.ffv1_unpack.proofs.SalvageLaws.{as_many_pictures, shown_decode}
use Rattle.ffv1_unpack.proofs.laws.each_frame_has_a_picture.Goals as goal

pub returns-clause-length : goal.returns-clause-length
returns-clause-length c = as_many_pictures

pub returns-clause-decoded : goal.returns-clause-decoded
returns-clause-decoded c = shown_decode
