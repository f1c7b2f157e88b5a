-- Room of a record in a file of which the first byte was looked at.
use Rattle.std.proofs.Common.{ℕ, Option, Some, None, List}
use Rattle.std.specs.Io.KnownBytes.{Consumes}
use Rattle.ffv1_wire.specs.Reads.{GivesByte}
use Rattle.ffv1_reads.specs.First.{bytes_with}
use Rattle.ffv1_reads.specs.Room.{RoomRead}

-- what was read with that byte was read with it
pub consumed_with : (first : Option ℕ) (old mid new : Option (List ℕ)) (bytes : List ℕ) → GivesByte old mid first → Consumes (bytes_with first mid) new bytes → Consumes old new bytes
consumed_with first None mid new bytes gives h = tt
consumed_with None (Some text) None new bytes gives h = absurd gives.0
consumed_with None (Some text) (Some left) None bytes gives h = absurd h
consumed_with None (Some text) (Some left) (Some rest) bytes gives h = rw (← gives.0) h
consumed_with (Some b) (Some text) None new bytes gives h = absurd gives
consumed_with (Some b) (Some text) (Some left) None bytes gives h = absurd h
consumed_with (Some b) (Some text) (Some left) (Some rest) bytes gives h = rw gives h

pub room_with : (first : Option ℕ) (old mid new : Option (List ℕ)) (before after : ℕ) → GivesByte old mid first → RoomRead (bytes_with first mid) new before after → RoomRead old new before after
room_with first old mid new before after gives h = record { bytes = h.bytes; consumed = consumed_with first old mid new h.bytes gives h.consumed; within = h.within }
