-- The faults of writing the pictures of a file.
use Rattle.std.specs.Prelude.{◌⊎◌, ℕ, List, Option}
use Rattle.ffv1_video.specs.declared.fault.Fault.{Fault}
use Rattle.ffv1_files.specs.Readers.{Standing}
use Rattle.ffv1_unpack.specs.Internal.Containers.{IsContainerFault}
use Rattle.ffv1_unpack.specs.Unpack.{IsUnpackFault}

-- with those of the container that the frames are in
abbrev pub IsWritingFault : Standing → Option (List ℕ) → Fault → Type 0
IsWritingFault r left f = IsUnpackFault f ⊎ IsContainerFault r left f
