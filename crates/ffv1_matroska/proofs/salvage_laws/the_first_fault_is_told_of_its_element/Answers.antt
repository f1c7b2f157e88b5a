-- The first fault that is told is told of the element at which plain reading is refused.
use Rattle.ffv1_matroska.proofs.ToldPlaces.{told_stands}
use Rattle.ffv1_matroska.proofs.salvage_laws.the_first_fault_is_told_of_its_element.Goals as goal

pub returns : goal.returns
returns c = λ text t others told. told_stands text t others told
