-- A Matroska file that may be damaged, up to where its frames begin, and the faults that are told
-- before.
use Rattle.std.specs.Prelude.{◌≡◌, ◌⊎◌, ℕ, true, List, [], map, Option, Some, None, Result, Ok, Err}
use Rattle.ffv1_wire.specs.Passage.{Passage}
use Rattle.ffv1_reads.specs.Head.{Head}
use Rattle.ffv1_reads.specs.Known.{Known}
use Rattle.ffv1_reads.specs.Offsets.{offset_after}
use Rattle.ffv1_reads.specs.Reads.{Met, Reading, Short, Stop}
use Rattle.ffv1_reads.specs.declared.fault.FileFault.{FileFault}
use Rattle.ffv1_reads.specs.declared.fault.FileFault.TheVariants as fault
use Rattle.ffv1_reads.specs.Items.{Given, Tells}
use Rattle.ffv1_matroska.specs.SalvageStops as matroska
use Rattle.ffv1_matroska.specs.SalvageTold.{TellsRead, told_before}
use Rattle.ffv1_matroska.specs.SalvagedAgain.{StopsLate, StopsSalvaged, TellsLate}
use Rattle.ffv1_matroska.specs.SalvagedLate.{late_salvaged}
use Rattle.ffv1_matroska.specs.Salvaged.{NeverBegins, Salvaged, data_at, may_be_told, salvage_read}
use Rattle.ffv1_matroska.specs.declared.told.ToldFault.{ToldFault}
use Rattle.ffv1_files.specs.Answers.{Endings, FaultsRead, StopsReading}
use Rattle.ffv1_files.specs.Places.{InMatroska, Place}

-- how many bytes of a file come before the first element of its Segment
abbrev pub data_offset : List ℕ → ℕ
data_offset file = offset_after 0 (data_at file)

-- and before the element at fault, if so many come before the first one of the Segment: none before
-- the header of EBML
abbrev pub told_offset : ℕ → Option ℕ → ℕ
told_offset start None = 0
told_offset start (Some position) = offset_after start position

abbrev pub given_told : ℕ → ToldFault → Given
given_told start t = Tells t.fault (told_offset start t.position)

-- all that is told of a Matroska file up to where its frames begin, or up to where it is refused
abbrev pub told_of : List ℕ → List Given
told_of file = map (given_told (data_offset file)) (told_before file)

-- its first Tracks are sought if none come before the first Cluster
abbrev pub salvaged_again : List ℕ → Result (Salvaged × List ℕ) Stop →
    Result (Salvaged × List ℕ) Stop
salvaged_again text (Ok p) = Ok p
salvaged_again text (Err (Short w)) = Err (Short w)
salvaged_again text (Err (Met fault.NoTracks rest)) = late_salvaged text
salvaged_again text (Err (Met f rest)) = Err (Met f rest)

-- a Matroska file that may be damaged, up to where its frames begin, wherever its Tracks stand
unfoldable pub again_salvaged : Reading Salvaged
again_salvaged text = salvaged_again text (salvage_read text)

-- a file has this head, so many bytes come before this place, where its frames begin, and these are
-- left; and these faults are told before
abbrev pub IsSalvaged : List ℕ → List ℕ → Head → Place → ℕ → List Given → Type 0
IsSalvaged file rest head from offset told =
    (s : Salvaged) × (again_salvaged file ≡ Ok (s, rest)) × (head ≡ s.opened.track.head)
    × (from ≡ InMatroska s.opened.segment s.opened.track.numbers s.opened.place)
    × (offset ≡ offset_after (data_offset file) s.begun)
    × (told ≡ map (given_told (data_offset file)) s.told)

-- what the end of the input may be: that the frames never begin, or that there are no Tracks
abbrev pub salvage_endings : Endings Salvaged
salvage_endings = record { values = NeverBegins; faults = λ f. f ≡ fault.NoTracks }

-- a reader was opened so
pub record Salvages (p : Passage) (head : Head) (place : Place) (offset : ℕ) (told : List Given)
    : Type 0 where
  pub kept : p.after ≡ p.before
  pub known : Known p.old p.new (λ file rest. IsSalvaged file rest head place offset told)

-- some fault is told
abbrev pub SomeTold : List ToldFault → Type 0
SomeTold faults = faults ≡ [] → ⊥

-- a file is refused plainly, by this reading, with a fault that may be told
pub record RefusedPlainly (reading : Reading (Head × Place)) (old : Option (List ℕ))
    : Type 0 where
  pub refusal : FileFault
  pub told : may_be_told refusal ≡ true
  pub left : Option (List ℕ)
  pub known : Known old left (λ file rest. reading file ≡ Err (Met refusal rest))

-- the reading that tells was refused with this fault, after it told some: of the bytes that it has
-- read all was told that comes before that, and so many bytes come before the element at fault
pub record RefusedOnce (p : Passage) (start : ℕ) (faults : List ToldFault) (f : FileFault)
    (offset : ℕ) : Type 0 where
  pub some : SomeTold faults
  pub why : StopsReading salvage_endings salvage_read p f
  pub at : matroska.FileStops p.old p.new f offset
  pub tells : TellsRead p.old p.new start faults

-- if a file may be damaged, no Tracks come before its first Cluster, or before the end of its
-- Segment: so it is read once, up to what is left, and stops after so many bytes
pub record FirstLacksTracks (old left : Option (List ℕ)) (offset : ℕ) : Type 0 where
  pub known : Known old left (λ file rest. salvage_read file ≡ Err (Met fault.NoTracks rest))
  pub at : matroska.FileStops old left fault.NoTracks offset

-- where a fault ends it that was read again; if it has no Tracks, where the first reading did
abbrev pub StopsAgainAt : Passage → FileFault → ℕ → Type 0
StopsAgainAt p fault.NoTracks offset =
    (left : Option (List ℕ)) × FirstLacksTracks p.old left offset
StopsAgainAt p f offset = StopsLate p f offset

-- such a file, which plain reading refuses, was read again, and was refused with this fault: what
-- is told is what the second of these readings tells
pub record RefusedLate (p : Passage) (start : ℕ) (faults : List ToldFault) (f : FileFault)
    (offset : ℕ) : Type 0 where
  pub here : Option (List ℕ)
  pub why : StopsSalvaged here p f
  pub at : StopsAgainAt p f offset
  pub tells : TellsLate p.old p.new start faults

-- a reading that tells was refused so: the one, or those that read a file again
abbrev pub StopsTelling : Passage → ℕ → List ToldFault → FileFault → ℕ → Type 0
StopsTelling p start faults f offset =
    RefusedOnce p start faults f offset ⊎ RefusedLate p start faults f offset

-- bytes by which a reading that tells is refused with this fault
abbrev pub EndsTelling : FileFault → List ℕ → List ℕ → Type 0
EndsTelling f file rest = FaultsRead again_salvaged file rest f
