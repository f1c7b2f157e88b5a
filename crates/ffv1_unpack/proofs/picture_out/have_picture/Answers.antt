-- What the picture of a payload says, which is kept then.
use Rattle.ffv1_unpack.proofs.picture_out.have_picture.Goals as goal

pub returns-in-Some-clause-ok : goal.returns-in-Some-clause-ok
returns-in-Some-clause-ok g c = λ accepted keeps fits. (rw c.in-Some.is at fits, keeps)
