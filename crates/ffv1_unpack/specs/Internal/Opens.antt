-- Opening a file: what is known then of its reader and of its configuration.
use Rattle.std.specs.Prelude.{◌≡◌, ℕ, List, length, None, Ok}
use Rattle.ffv1_wire.specs.Passage.{Passage}
use Rattle.ffv1_record.specs.Accepted.{Accepted}
use Rattle.ffv1_files.specs.Files.{open_read}
use Rattle.ffv1_files.specs.Places.{Place}
use Rattle.ffv1_files.specs.Readers.{Standing}
use Rattle.ffv1_reads.specs.Head.{Head}
use Rattle.ffv1_reads.specs.Known.{Known}
use Rattle.ffv1_video.specs.Profiles.{scope_in}
use Rattle.ffv1_video.specs.declared.profile.Profile.{Profile}
use Rattle.ffv1_unpack.specs.Internal.Containers.{IsWithin}
use Rattle.ffv1_unpack.specs.Stream.{IsStream, ReadsFrames, Stream, last_bytes}
use Rattle.ffv1_unpack.specs.Opens.{OpensKnown}

abbrev pub stream_of : Standing → Accepted → Stream
stream_of r a = record { head = r.head; accepted = a }

-- a file was opened
pub record OpensStream (profile : Profile) (r : Standing) (a : Accepted) (p : Passage)
    : Type 0 where
  pub stream : IsStream profile (stream_of r a)
  pub known : OpensKnown profile p.old p.new r.head r.place
  pub within : IsWithin profile r.place
  pub sound : r.fault ≡ None
  pub kept : p.after ≡ p.before

-- a file begins with this head and so many payloads, and then comes this place
abbrev pub ReachesRange : Profile → ℕ → Head → Place → List ℕ → List ℕ → Type 0
ReachesRange profile first head place file rest =
    (before : List (List ℕ)) × (length before ≡ first) × (from : Place) × (behind : List ℕ)
    × (open_read (scope_in profile) file ≡ Ok ((head, from), behind))
    × ReadsFrames from behind before place rest

-- a file was opened, and so many of its frames were passed
pub record OpensRange (profile : Profile) (first : ℕ) (r : Standing) (a : Accepted) (p : Passage)
    : Type 0 where
  pub stream : IsStream profile (stream_of r a)
  pub known : Known p.old p.new (ReachesRange profile first r.head r.place)
  pub within : IsWithin profile r.place
  pub sound : r.fault ≡ None
  pub kept : p.after ≡ p.before

-- the same, and of the payloads before this is the last one that has bytes
abbrev pub ReachesPart : Profile → ℕ → List ℕ → Head → Place → List ℕ → List ℕ → Type 0
ReachesPart profile first carried head place file rest =
    (before : List (List ℕ)) × (length before ≡ first) × (carried ≡ last_bytes before)
    × (from : Place) × (behind : List ℕ)
    × (open_read (scope_in profile) file ≡ Ok ((head, from), behind))
    × ReadsFrames from behind before place rest

-- a file was opened, so many of its frames were passed, and that was kept
pub record OpensPart (profile : Profile) (first : ℕ) (carried : List ℕ) (r : Standing)
    (a : Accepted) (p : Passage) : Type 0 where
  pub stream : IsStream profile (stream_of r a)
  pub known : Known p.old p.new (ReachesPart profile first carried r.head r.place)
  pub within : IsWithin profile r.place
  pub sound : r.fault ≡ None
  pub kept : p.after ≡ p.before
