-- Planes that were read have room for planes of the same sizes.
use Rattle.ffv1_y4m.specs.VideoHead.{plane_bytes}
use Rattle.ffv1_y4m.proofs.PlaneRooms.{room_left}
use Rattle.ffv1_y4m.proofs.laws.read_planes_keep_their_room.Goals as goal

pub returns : goal.returns
returns g c = record { left = λ depth h planes fits. room_left (plane_bytes depth h) planes fits }
