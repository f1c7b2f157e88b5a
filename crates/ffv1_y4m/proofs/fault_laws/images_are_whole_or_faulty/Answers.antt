-- A text of images is whole, as it is read if depths up to that one are, or has a first fault; and
-- it has one, in one place.
use Rattle.ffv1_y4m.proofs.FaultPlaces.{images_inside}
use Rattle.ffv1_y4m.proofs.ImageStreams.{images_only_fault, images_or_fault}
use Rattle.ffv1_y4m.proofs.fault_laws.images_are_whole_or_faulty.Goals as goal

pub returns : goal.returns
returns c = record { some = images_or_fault; only = images_only_fault; inside = images_inside }
