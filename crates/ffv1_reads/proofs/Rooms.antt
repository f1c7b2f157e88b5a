-- Room that becomes greater while bytes are read.
use Rattle.std.proofs.Common.{ℕ, ◌≤◌, max, List, [], ◌++◌, length, Option, arith}
use Rattle.std.proofs.lemmas.List.{length-append}
use Rattle.std.proofs.lemmas.Grind.{common_steps}
use Rattle.ffv1_wire.proofs.Bytes.{consumes_then}
use Rattle.std.proofs.Common.{Result, Ok, Err}
use Rattle.std.specs.Prelude.{OnOk}
use Rattle.ffv1_wire.specs.Passage.{Passage}
use Rattle.ffv1_reads.specs.declared.fault.FileFault.{FileFault}
use Rattle.ffv1_reads.specs.Reads.{Answers, Read, Reading, Want, wanted}
use Rattle.std.proofs.Common.{inl, inr}
use Rattle.ffv1_reads.specs.Ends.{ReadOrNone}
use Rattle.ffv1_reads.specs.Room.{RoomRead}
use Rattle.ffv1_reads.proofs.LoopReadings.{wanted_consumed}
use Rattle.ffv1_reads.proofs.Reading.{consumes_none}

-- nothing was read, and the room is as it was
pub room_none : (a : Option (List ℕ)) (n : ℕ) → RoomRead a a n n
room_none a n = record { bytes = []; consumed = consumes_none a; within = omega arith }

-- something was read, and the room is as it was
pub room_kept : {X : Type 0} {r : Reading X} {old new : Option (List ℕ)} {x : X} (n : ℕ) → Read r old new x → RoomRead old new n n
room_kept n read = record { bytes = read.bytes; consumed = read.consumed; within = omega arith }

-- bytes were kept, for which there is room
pub room_filled : {old new : Option (List ℕ)} {bytes : List ℕ} (w : Want) (n before after : ℕ) → Read (wanted w n) old new bytes → after ≤ max before (length bytes) → RoomRead old new before after
room_filled {old = old} {new = new} {bytes = bytes} w n before after read most =
    record { bytes = bytes; consumed = wanted_consumed w n old new bytes read; within = grind (arith, common_steps, most) }

-- one after the other
pub room_then : {a b c : Option (List ℕ)} {x y z : ℕ} → RoomRead a b x y → RoomRead b c y z → RoomRead a c x z
room_then {a = a} {b = b} {c = c} {x = x} {y = y} {z = z} h k =
    record {
      bytes = h.bytes ++ k.bytes;
      consumed = consumes_then a b c h.bytes k.bytes h.consumed k.consumed;
      within = omega (arith, length-append h.bytes k.bytes, h.within, k.within);
    }

-- an answer that reads, with the room as it was
pub room_answered : {X Y : Type 0} (view : Y → X) (reading : Reading X) (p : Passage) (n : ℕ) (r : Result Y FileFault) → Answers view reading p r → OnOk r (RoomRead p.old p.new n n)
room_answered view reading p n (Ok y) h = room_kept n h.1
room_answered view reading p n (Err f) h = tt

-- an answer after bytes that were read
pub room_after : {X Y : Type 0} {reading : Reading X} {a b : Option (List ℕ)} {x : X} (c : Option (List ℕ)) (m n : ℕ) (r : Result Y FileFault) → Read reading a b x → OnOk r (RoomRead b c m n) → OnOk r (RoomRead a c m n)
room_after c m n (Ok y) read h = room_then (room_kept m read) h
room_after c m n (Err f) read h = tt

-- a value was read or nothing more is there, and the room is as it was
pub room_or_none : {X : Type 0} (reading : Reading (Option X)) (old new : Option (List ℕ)) (x : Option X) (n : ℕ) → ReadOrNone reading old new x → RoomRead old new n n
room_or_none reading old new x n (inl read) = room_kept n read
room_or_none reading old new x n (inr halts) = record { bytes = halts.0.0.bytes; consumed = halts.0.0.consumed; within = omega arith }
