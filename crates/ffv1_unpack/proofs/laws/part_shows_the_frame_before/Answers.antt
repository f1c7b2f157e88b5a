-- A part of frames, of which a first one that repeats another is the last coded one before the part
-- itself, shows what the part shows in the whole.
use Rattle.ffv1_unpack.proofs.PartsShown.{part_payloads, part_shown}
use Rattle.ffv1_unpack.proofs.laws.part_shows_the_frame_before.Goals as goal

pub returns-clause-shown : goal.returns-clause-shown
returns-clause-shown c = part_shown

pub returns-clause-payloads : goal.returns-clause-payloads
returns-clause-payloads c = part_payloads
