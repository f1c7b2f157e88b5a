-- A sink that has taken whole images and takes the lines of one more has written its text after the
-- others, and again has taken whole images.
use Rattle.ffv1_y4m.proofs.ImageRuns.{image_taken}
use Rattle.ffv1_y4m.proofs.laws.image_is_written_after_the_others.Goals as goal

pub returns : goal.returns
returns g c = record { image = image_taken g.W.ByteOut.contents g.W.ByteOut.failures }
