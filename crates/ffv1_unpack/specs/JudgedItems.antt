-- Judging what a file gives that may be damaged: frames that code a picture or are refused, and
-- faults of the file that are told, each with the number of bytes before its element or chunk.
use Rattle.std.specs.Prelude.{◌≡◌, ◌⊎◌, ◌^◌, ◌-◌, ℕ, Bool, List, [], ◌∷◌, ◌++◌, length}
use Rattle.std.specs.Prelude.{map, codes, decimal, Option, Some, None, Ok, ⊤}
use Rattle.std.specs.Io.KnownBytes.{Appends}
use Rattle.std.proofs.Common.{suc}
use Rattle.ffv1_range.specs.Counts.{saturated}
use Rattle.ffv1_wire.specs.Failures.{one_more}
use Rattle.ffv1_wire.specs.Passage.{Passage}
use Rattle.ffv1_record.specs.Accepted.{Accepted}
use Rattle.ffv1_record.specs.Configuration.{Configuration}
use Rattle.ffv1_reads.specs.Head.{Head}
use Rattle.ffv1_reads.specs.Known.{Known}
use Rattle.ffv1_reads.specs.declared.fault.FileFault.{FileFault}
use Rattle.ffv1_reads.specs.declared.fault.FileFault.TheVariants as file_fault
use Rattle.ffv1_reads.specs.Items.{Given, GivesFrame, Tells}
use Rattle.ffv1_files.specs.declared.course.Course.{Course}
use Rattle.ffv1_files.specs.Files.{open_read}
use Rattle.ffv1_files.specs.Items.{ItemSoFar, course_by, item_read}
use Rattle.ffv1_files.specs.Offsets.{PlaceReached}
use Rattle.ffv1_files.specs.Places.{Place}
use Rattle.ffv1_video.specs.declared.profile.Profile.{Profile}
use Rattle.ffv1_video.specs.declared.fault.Fault.{Fault}
use Rattle.ffv1_video.specs.Faults.{Cause, of_avi}
use Rattle.ffv1_video.specs.Faults.Cause.{Reading, Writing, Memory, Content}
use Rattle.ffv1_video.specs.Output.{WritesUpTo}
use Rattle.ffv1_video.specs.Profiles.{scope_in}
use Rattle.ffv1_unpack.specs.Judged.{IsJudged, Judged, counts_line, judged_line, payload_of}
use Rattle.ffv1_unpack.specs.Judged.{refusal_of, with_refusal}
use Rattle.ffv1_unpack.specs.Play.{but_last}
use Rattle.ffv1_unpack.specs.Stream.{AreAll}

-- ---- items that are judged

-- a frame that was judged; or a fault that is told, and the number of bytes before its element
pub data JudgedItem : Type 0 where
  OfFrame : Judged → JudgedItem
  ToldAt : FileFault → ℕ → JudgedItem

abbrev pub IsJudgedItem : Accepted → JudgedItem → Type 0
IsJudgedItem a (OfFrame j) = IsJudged a j
IsJudgedItem a (ToldAt f offset) = ⊤

-- as what the file gives it
abbrev pub given_as : JudgedItem → Given
given_as (OfFrame j) = GivesFrame (payload_of j)
given_as (ToldAt f offset) = Tells f offset

-- those of them that are frames
abbrev pub with_frame : JudgedItem → List Judged → List Judged
with_frame (OfFrame j) js = j ∷ js
with_frame (ToldAt f offset) js = js

abbrev pub frames_of : List JudgedItem → List Judged
frames_of [] = []
frames_of (x ∷ xs) = with_frame x (frames_of xs)

-- its fault, if it has one
abbrev pub fault_of : JudgedItem → Option Fault
fault_of (OfFrame j) = refusal_of j
fault_of (ToldAt f offset) = Some (of_avi f)

-- the faults of all, in turn
abbrev pub faults_of : List JudgedItem → List Fault
faults_of [] = []
faults_of (x ∷ xs) = with_refusal (fault_of x) (faults_of xs)

-- ---- their lines

-- the number and the name of a fault of a file
unfoldable pub file_word : FileFault → List ℕ
file_word file_fault.OutOfMemory = codes "2 OutOfMemory"
file_word file_fault.NotAvi = codes "50 NotAvi"
file_word file_fault.NoFfv1 = codes "51 NoFfv1"
file_word file_fault.Truncated = codes "52 Truncated"
file_word file_fault.ChunkTooLong = codes "53 ChunkTooLong"
file_word file_fault.EmptyFrame = codes "54 EmptyFrame"
file_word file_fault.TooLarge = codes "55 TooLarge"
file_word file_fault.Read = codes "56 Read"
file_word file_fault.Write = codes "57 Write"
file_word file_fault.NotMatroska = codes "80 NotMatroska"
file_word file_fault.BadElement = codes "81 BadElement"
file_word file_fault.NoTracks = codes "82 NoTracks"
file_word file_fault.Encoded = codes "83 Encoded"
file_word file_fault.Laced = codes "84 Laced"
file_word file_fault.Checksum = codes "85 Checksum"
file_word file_fault.Rate = codes "86 Rate"
file_word file_fault.Another = codes "88 Another"

-- the line of a fault that is told
unfoldable pub told_line : ℕ → FileFault → List ℕ
told_line offset f =
    codes "byte " ++ decimal offset ++ codes ": fault " ++ file_word f ++ codes "\n"

-- the lines of one, by the number of the next frame
abbrev pub item_line : Bool → Configuration → ℕ → JudgedItem → List ℕ
item_line place c i (OfFrame j) = judged_line place c i j
item_line place c i (ToldAt f offset) = told_line offset f

-- the number of the next frame after it
abbrev pub number_after : ℕ → JudgedItem → ℕ
number_after i (OfFrame j) = suc i
number_after i (ToldAt f offset) = i

-- the lines of those from the frame with this number on
abbrev pub item_lines_from : Bool → Configuration → ℕ → List JudgedItem → List ℕ
item_lines_from place c i [] = []
item_lines_from place c i (x ∷ xs) =
    item_line place c (saturated i) x ++ item_lines_from place c (number_after i x) xs

-- the lines of all
abbrev pub item_lines : Bool → Configuration → List JudgedItem → List ℕ
item_lines place c xs = item_lines_from place c 0 xs

-- how many frames there were, and how many faults of either kind
abbrev pub item_count : List JudgedItem → List ℕ
item_count xs =
    counts_line (saturated (length (frames_of xs))) (saturated (length (faults_of xs)))

-- the lines of all, and that one
abbrev pub items_text : Bool → Configuration → List JudgedItem → List ℕ
items_text place c xs = item_lines place c xs ++ item_count xs

-- ---- items of bytes, and what comes after them

-- from a place and a course these items come; then come others, and this text
abbrev pub ReadsItems : Place → Course → List ℕ → List Given → Place → Course → List ℕ → Type 0
ReadsItems from c text [] to d rest = (to ≡ from) × (d ≡ c) × (rest ≡ text)
ReadsItems from c text (i ∷ is) to d rest =
    (after : Place) × (next : Course) × (behind : List ℕ)
    × (item_read from c text ≡ Ok (Some (i, after, next), behind))
    × ReadsItems after next behind is to d rest

-- what may come after items, by the place, the course, and what is left before and after
abbrev pub ItemsNext : Type 1
ItemsNext = Place → Course → List ℕ → List ℕ → Type 0

-- from this place and this course this text begins with these items; and then this comes
abbrev pub ItemsFrom : Place → Course → List Given → ItemsNext → List ℕ → List ℕ → Type 0
ItemsFrom from c items Next text rest =
    (to : Place) × (d : Course) × (at : List ℕ) × ReadsItems from c text items to d at
    × Next to d at rest

-- a file has this head, so many bytes come before where its frames begin, and from there on it has
-- these items; and then this comes
abbrev pub ItemsThen : Profile → Head → List Given → ItemsNext → List ℕ → List ℕ → Type 0
ItemsThen profile head items Next file rest =
    (from : Place) × (offset : ℕ) × (behind : List ℕ)
    × (open_read (scope_in profile) file ≡ Ok ((head, from), behind))
    × PlaceReached (scope_in profile) (Some file) (Some behind) head from offset
    × ItemsFrom from (course_by from offset) items Next behind rest

-- nothing more was read
abbrev pub ItemsStay : ItemsNext
ItemsStay to d at rest = rest ≡ at

-- there is nothing more; or after so many items no further one is read
abbrev pub ItemsOver : ℕ → ItemsNext
ItemsOver count to d at rest =
    (item_read to d at ≡ Ok (None, rest)) ⊎ ((count ≡ 2 ^ 64 - 1) × (rest ≡ at))

-- more bytes were wanted: those that were read have an item by themselves, or none
abbrev pub ItemsWant : ItemsNext
ItemsWant to d at rest = ItemSoFar (item_read to d) at rest

-- this one comes
abbrev pub ItemIs : Given → ItemsNext
ItemIs i to d at rest =
    (after : Place) × (next : Course) × (item_read to d at ≡ Ok (Some (i, after, next), rest))

-- memory was refused for a frame, of which more bytes were wanted, or for the lines of one that
-- comes
abbrev pub ItemsLack : Accepted → ItemsNext
ItemsLack a to d at rest =
    ItemsWant to d at rest
    ⊎ ((x : JudgedItem) × IsJudgedItem a x × ItemIs (given_as x) to d at rest)

-- ---- how far they are judged, by how bytes have items

module _ (Has : List Given → ItemsNext → List ℕ → List ℕ → Type 0) (a : Accepted) (place : Bool)
    (input output : Passage) where
  -- these came, and then this
  pub record ItemsGo (xs : List JudgedItem) (Next : ItemsNext) : Type 0 where
    pub are : AreAll (IsJudgedItem a) xs
    pub has : Known input.old input.new (Has (map given_as xs) Next)

  -- the lines of these were written
  pub record ItemsWritten (xs : List JudgedItem) : Type 0 where
    pub written : output.after ≡ output.before
    pub writes : Appends output.old output.new (item_lines place a.configuration xs)

  -- they are all
  pub record ItemsAll (xs : List JudgedItem) : Type 0 where
    pub go : ItemsGo xs (ItemsOver (length xs))
    pub wrote : ItemsWritten xs
    pub kept : input.after ≡ input.before

  -- why no further one is judged, by the cause: the lines of the last one were not written whole; a
  -- read of the next one failed, which was counted; or memory was refused
  abbrev pub ItemsStopBy : Cause → Type 0
  ItemsStopBy Writing =
      (xs : List JudgedItem) × ItemsGo xs ItemsStay × (input.after ≡ input.before)
      × (output.after ≡ one_more output.before)
      × WritesUpTo output.old output.new
      (length (item_lines place a.configuration (but_last xs)))
      (item_lines place a.configuration xs)
  ItemsStopBy Reading =
      (xs : List JudgedItem) × ItemsGo xs ItemsWant × (input.after ≡ one_more input.before)
      × ItemsWritten xs
  ItemsStopBy Memory =
      (xs : List JudgedItem) × ItemsGo xs (ItemsLack a) × (input.after ≡ input.before)
      × ItemsWritten xs
  ItemsStopBy Content = ⊥
