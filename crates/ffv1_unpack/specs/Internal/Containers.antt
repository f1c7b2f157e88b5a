-- What a position in a file of a container may be, and the faults that are its own.
use Rattle.std.specs.Prelude.{◌≡◌, ℕ, Bool, true, false, List, Option, ⊤}
use Rattle.ffv1_files.specs.declared.container.Container.{Container}
use Rattle.ffv1_files.specs.declared.container.Container.TheVariants as container
use Rattle.ffv1_files.specs.declared.container.Scope.{Scope}
use Rattle.ffv1_files.specs.declared.container.Scope.TheVariants.{Whole}
use Rattle.ffv1_files.specs.Places.{InAvi, InMatroska, Place, container_of}
use Rattle.ffv1_files.specs.Readers.{Standing}
use Rattle.ffv1_video.specs.declared.profile.Profile.{Profile}
use Rattle.ffv1_video.specs.declared.profile.Profile.TheVariants.{Strict, Wide}
use Rattle.ffv1_video.specs.declared.fault.Fault.{Fault}
use Rattle.ffv1_reads.specs.declared.fault.FileFault.TheVariants as file_fault
use Rattle.ffv1_video.specs.declared.fault.Fault.TheVariants as fault
use Rattle.ffv1_unpack.specs.Located.{Stands}

-- the faults of the frames of a Segment, and of what comes after it, beside those that every file
-- has: that it lacks Tracks is met before
abbrev pub is_segment_fault : Fault → Bool
is_segment_fault (fault.File file_fault.BadElement) = true
is_segment_fault (fault.File file_fault.Laced) = true
is_segment_fault (fault.File file_fault.Checksum) = true
is_segment_fault (fault.File file_fault.Another) = true
is_segment_fault f = false

-- the faults of a position beside those that every file has, by what is left of the file there: in
-- a Segment those; in an AVI another file after its last RIFF, which is looked for only if all of
-- the file is read
abbrev pub told_at : Standing → Option (List ℕ) → Place → Fault → Type 0
told_at r left (InAvi place) f =
    (f ≡ fault.File file_fault.Another)
    × ((scope : Scope) (text : Option (List ℕ)) → Stands scope text left r → scope ≡ Whole)
told_at r left (InMatroska segment track place) f = is_segment_fault f ≡ true

abbrev pub IsContainerFault : Standing → Option (List ℕ) → Fault → Type 0
IsContainerFault r left f = told_at r left r.place f

-- a position in a file that a profile reads
abbrev pub IsWithin : Profile → Place → Type 0
IsWithin Strict place = container_of place ≡ container.Avi
IsWithin Wide place = ⊤

-- whether it is a Segment
abbrev pub is_segment : Container → Bool
is_segment container.Avi = false
is_segment (container.Matroska size) = true
