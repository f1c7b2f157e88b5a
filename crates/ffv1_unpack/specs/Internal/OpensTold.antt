-- A Matroska file that may be damaged before its first frame is opened, and something is told of
-- it.
use Rattle.std.specs.Prelude.{◌≡◌, ℕ, List, [], ◌∷◌, map, Option, Some, None, true}
use Rattle.ffv1_wire.specs.Passage.{Passage}
use Rattle.ffv1_record.specs.Accepted.{Accepted}
use Rattle.ffv1_reads.specs.Known.{Known}
use Rattle.ffv1_matroska.specs.declared.told.ToldFault.{ToldFault}
use Rattle.ffv1_files.specs.Behind.{EndsThere}
use Rattle.ffv1_files.specs.Places.{container_of}
use Rattle.ffv1_files.specs.Readers.{Standing}
use Rattle.ffv1_files.specs.Salvaged.{IsSalvaged, given_told}
use Rattle.ffv1_video.specs.declared.profile.Profile.{Profile}
use Rattle.ffv1_video.specs.declared.fault.Fault.{Fault}
use Rattle.ffv1_video.specs.Faults.{of_avi}
use Rattle.ffv1_unpack.specs.Stream.{IsStream}
use Rattle.ffv1_unpack.specs.Internal.Containers.{is_segment}
use Rattle.ffv1_unpack.specs.Internal.Opens.{stream_of}

-- it was opened, with these faults
pub record OpensTold (profile : Profile) (p : Passage) (start : ℕ) (faults : List ToldFault)
    (r : Standing) (a : Accepted) : Type 0 where
  pub stream : IsStream profile (stream_of r a)
  pub known : Known p.old p.new (λ file rest.
      IsSalvaged file rest r.head r.place r.offset (map (given_told start) faults))
  pub kept : p.after ≡ p.before
  pub sound : r.fault ≡ None
  pub segment : is_segment (container_of r.place) ≡ true
  pub ends : EndsThere r

-- the fault of the first of these, or else that one
abbrev pub first_told : List ToldFault → Option Fault → Option Fault
first_told [] other = other
first_told (t ∷ ts) other = Some (of_avi t.fault)
