-- Whether a file is read plainly.
use Rattle.std.specs.Prelude.{◌≡◌, ◌⊎◌, ℕ, Bool, true, false, List, Option}
use Rattle.ffv1_files.specs.declared.course.Course.{Course}
use Rattle.ffv1_files.specs.declared.course.Course.TheVariants as course
use Rattle.ffv1_files.specs.Readers.{Standing}
use Rattle.ffv1_video.specs.declared.fault.Fault.{Fault}
use Rattle.ffv1_unpack.specs.Internal.Containers.{IsContainerFault}
use Rattle.ffv1_unpack.specs.Told.{is_telling_fault}

-- by this course plain reading goes on, which the first fault of the file ends
abbrev pub is_plain : Course → Bool
is_plain course.Plain = true
is_plain (course.Avi c repeated) = false
is_plain (course.Matroska c) = false

-- the faults of reading an item and of writing what is told of it; of plain reading also those of
-- the container, by where a reader stands, and what is left there
abbrev pub IsItemFault : Bool → Standing → Option (List ℕ) → Fault → Type 0
IsItemFault plain r left f =
    (is_telling_fault f ≡ true) ⊎ ((plain ≡ true) × IsContainerFault r left f)
