-- The main header, AVIMAINHEADER of the AVI RIFF File Reference, for so many frames.
use Rattle.ffv1_avi.proofs.write.put_main_header.Goals as goal

pub returns : goal.returns
returns g c = rw c.microseconds.ensures at c.put_fields.ensures
