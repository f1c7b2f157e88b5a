-- Reads the header of the first image of a PPM, of a depth that the profile reads: three lines, or
-- at `Wide` as Netpbm writes it.
use Rattle.ffv1_pack.proofs.video.open_images.Goals as goal

pub returns-in-Strict-clause-answer : goal.returns-in-Strict-clause-answer
returns-in-Strict-clause-answer g c = rw c.in-Strict.is c.open.ensures.answer

pub returns-in-Wide-clause-answer : goal.returns-in-Wide-clause-answer
returns-in-Wide-clause-answer g c = rw c.in-Wide.is c.open_deep.ensures.answer
