-- The container of a file: by what it is known, and which faults a profile has beside those of AVI.
use Rattle.std.specs.Prelude.{◌≡◌, ℕ, Bool, false, true, List, Option, Some, None, ⊤}
use Rattle.ffv1_files.specs.Files.{is_matroska}
use Rattle.ffv1_video.specs.declared.profile.Profile.{Profile}
use Rattle.ffv1_video.specs.declared.profile.Profile.TheVariants.{Strict, Wide}
use Rattle.ffv1_video.specs.declared.fault.Fault.{Fault}
use Rattle.ffv1_video.specs.Faults.{is_matroska_fault}

-- those of the containers that a profile reads
abbrev pub is_profile_fault : Profile → Fault → Bool
is_profile_fault Strict f = false
is_profile_fault Wide f = is_matroska_fault f

-- whether a profile reads these bytes as Matroska
abbrev pub reads_matroska : Profile → List ℕ → Bool
reads_matroska Strict file = false
reads_matroska Wide file = is_matroska file

-- whether a profile reads on after a fault of the file itself: not if it reads the first movi of an
-- AVI alone
abbrev pub reads_on : Profile → Bool
reads_on Strict = false
reads_on Wide = true

-- if the bytes of the input are known, this is whether they are read on
abbrev pub IsReadOn : Bool → Profile → Option (List ℕ) → Type 0
IsReadOn on profile None = ⊤
IsReadOn on profile (Some file) = reads_on profile ≡ on

-- if the bytes of the input are known, this is whether they are read as Matroska
abbrev pub IsReadAs : Bool → Profile → Option (List ℕ) → Type 0
IsReadAs matroska profile None = ⊤
IsReadAs matroska profile (Some file) = reads_matroska profile file ≡ matroska
