-- Room for content that is kept.
use Rattle.std.proofs.Common.{◌≡◌, ◌≤◌, ℕ, Bool, true, false, List, [], Option, Some, None, length, max, nat_lt, refl}
use Rattle.ffv1_reads.specs.Reads.{Kept, Read, wanted}
use Rattle.ffv1_reads.specs.Room.{RoomRead}
use Rattle.ffv1_reads.proofs.Rooms.{room_filled}
use Rattle.ffv1_reads.specs.Head.{limit}
use Rattle.ffv1_matroska.specs.Opening.{content_kept}

-- there is room for it
pub content_room : (size : Option ℕ) (old new : Option (List ℕ)) (bytes : List ℕ) (before after : ℕ) → Read (content_kept size) old new bytes → after ≤ max before (length bytes) → RoomRead old new before after
unfolding content_kept
content_room None old new bytes before after read most =
    let refusal = read.is [] in
    absurd (cc)
content_room (Some size) old new bytes before after read most = on_limit (nat_lt limit size) refl
  where
    on_limit : (b : Bool) → nat_lt limit size ≡ b → RoomRead old new before after
    on_limit true is =
        let refusal = rw is at read.is [] in
        absurd (cc)
    on_limit false is =
        let kept : Read (wanted Kept size) old new bytes = record { bytes = read.bytes; consumed = read.consumed; is = λ rest. rw is at read.is rest } in
        room_filled Kept size before after kept most
