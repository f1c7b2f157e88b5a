-- What is shown of a reader that was opened; and no decoder was made.
use Rattle.std.specs.Prelude.{◌≡◌, ℕ, List}
use Rattle.ffv1_wire.specs.Passage.{Passage}
use Rattle.ffv1_record.specs.Accepted.{Accepted}
use Rattle.ffv1_files.specs.Places.{container_of}
use Rattle.ffv1_files.specs.Readers.{Standing, others_at}
use Rattle.ffv1_video.specs.declared.fault.Fault.{Fault}
use Rattle.ffv1_video.specs.declared.fault.Fault.TheVariants as fault
use Rattle.ffv1_video.specs.Output.{Silent}
use Rattle.ffv1_unpack.specs.Internal.Opens.{stream_of}
use Rattle.ffv1_unpack.specs.StreamLines.{show_text}

-- the lines of its stream
abbrev pub lines_of : Standing → Accepted → List ℕ
lines_of r a = show_text (container_of r.place) (others_at r.place r.others) (stream_of r a)

-- a decoder was refused its memory, before anything more was read or written
pub record NoDecoder (input output : Passage) (f : Fault) : Type 0 where
  pub is : f ≡ fault.OutOfMemory
  pub left : input.old ≡ input.new
  pub unread : input.after ≡ input.before
  pub silent : Silent output
