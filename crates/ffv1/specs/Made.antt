-- What comes of a file that is made of another one, by what opens and makes files.
use Rattle.std.specs.Prelude.{◌≡◌, ◌⊎◌, ℕ, Bool, true, false, List, Option, Result, Ok, Err}
use Rattle.std.specs.Prelude.{IfOk, MatchResult}
use Rattle.ffv1_wire.specs.Passage.{Passage, passage}
use Rattle.ffv1_wire.specs.Seeks.{Overwriting}
use Rattle.ffv1_words.specs.declared.order.Choice.{Choice}
use Rattle.ffv1_words.specs.declared.order.FrameRange.{FrameRange}
use Rattle.ffv1_pack.specs.Pack.{Packs, RefusesPack}
use Rattle.ffv1_pack.specs.PackMatroska.{AsksMatroska, PacksMatroska, RefusesMatroska}
use Rattle.ffv1_pack.specs.declared.matroska_packing.PackedMatroska.{PackedMatroska}
use Rattle.ffv1_pack.specs.declared.packing.Packed.{Packed}
use Rattle.ffv1_unpack.specs.Unpack.{UnpackRangeDone, UnpackRangeStops}
use Rattle.ffv1_unpack.specs.UnpackAll.{UnpackAllDone, UnpackAllStops}
use Rattle.ffv1_unpack.specs.declared.judging.JudgedCounts.{JudgedCounts}
use Rattle.ffv1.specs.Opened.{first_judged}
use Rattle.ffv1_files.specs.declared.notes.Notes.{Notes}
use Rattle.ffv1_video.specs.declared.profile.Profile.TheVariants as profile
use Rattle.ffv1_orders.specs.Looked.{Outcome}
use Rattle.ffv1_files.specs.Noted.{no_notes}
use Rattle.ffv1_orders.specs.Noted.{noted}
use Rattle.ffv1_orders.specs.Statuses.{IsFault}
use Rattle.ffv1_orders.specs.Telling.{IsUntold}
use Rattle.ffv1_orders.specs.declared.refusal.Refusal.{Refusal}
use Rattle.ffv1_orders.specs.declared.unpacking.Unpacking.{Unpacking}
use Rattle.ffv1.specs.declared.streams.Counts.{Counts}

-- the counts of a file that was packed
abbrev pub avi_counts : Packed → Counts
avi_counts packed = record {
  frames = packed.frames;
  bytes = packed.bytes;
  loses_colour = packed.loses_colour;
}

abbrev pub matroska_counts : PackedMatroska → Counts
matroska_counts packed = record {
  frames = packed.frames;
  bytes = packed.bytes;
  loses_colour = false;
}

-- a video is packed, into Matroska or into AVI
abbrev pub PacksInto : Bool → Choice → Passage → Passage → Result Counts Refusal → Type 0
PacksInto true choice input output answer = MatchResult answer
    (λ counts. (packed : PackedMatroska) × PacksMatroska profile.Wide choice input output packed
    × (counts ≡ matroska_counts packed))
    (IsFault (RefusesMatroska profile.Wide choice input output))
PacksInto false choice input output answer = MatchResult answer
    (λ counts. (packed : Packed) × Packs profile.Wide choice input output packed
    × (counts ≡ avi_counts packed))
    (IsFault (RefusesPack profile.Wide choice input output))

-- by the bytes that a writer holds and its writes that failed, and what it is to write over it
module _ {W : Type 0} (contents : W → Option (List ℕ)) (failures : W → ℕ)
    (overwrites : Overwriting W) where
  -- a video was packed into Matroska. Once the writer had the file whose Segment is open, it was
  -- asked to be written over: if it answered that it was, the file is finished, else it stays open
  abbrev pub PacksAsked : Choice → Passage → W → W → PackedMatroska → Type 0
  PacksAsked choice input begin end packed =
      (packs : PacksMatroska profile.Wide choice input (passage contents failures begin end) packed)
      × AsksMatroska contents overwrites begin end choice packs.video packs.accepted packed.finished

  -- so a video is packed into Matroska; AVI is not written over
  abbrev pub AsksInto : Bool → Choice → Passage → W → W → Result Counts Refusal → Type 0
  AsksInto true choice input begin end answer = IfOk answer (λ counts.
      (packed : PackedMatroska) × PacksAsked choice input begin end packed
      × (counts ≡ matroska_counts packed))
  AsksInto false choice input begin end answer = Unit {0}

-- frames of a file are unpacked into a text
abbrev pub UnpacksInto : FrameRange → Passage → Passage → Result (ℕ × Notes) Refusal → Type 0
UnpacksInto range input output answer = MatchResult answer
    (λ answer. UnpackRangeDone profile.Wide range input output answer.0 answer.1)
    (IsFault (UnpackRangeStops profile.Wide range input output))

-- all of a file that may be damaged is, with lines of its faults
abbrev pub UnpacksAll : Passage → Passage → Passage → Result (JudgedCounts × Notes) Refusal →
    Type 0
UnpacksAll input lines output answer = MatchResult answer
    (λ answer. UnpackAllDone profile.Wide input lines output answer.0 answer.1)
    (IsFault (UnpackAllStops profile.Wide input lines output))

-- why it is not told how many frames there are comes of it
abbrev pub IsUntoldOf : Outcome → Type 0
IsUntoldOf outcome = (r : Refusal) × (outcome ≡ Err r) × IsUntold r

-- what was answered of a video comes of it, and nothing is noted, unless a success is not told
abbrev pub ToldOf : {A : Type 0} → Result A Refusal → Outcome → Type 0
ToldOf (Ok done) outcome = (outcome ≡ Ok no_notes) ⊎ IsUntoldOf outcome
ToldOf (Err r) outcome = outcome ≡ Err r

-- what is noted of the file comes of it, unless a success is not told
abbrev pub UnpackedTold : Bool → Result (ℕ × Notes) Refusal → Outcome → Type 0
UnpackedTold as_faults (Ok answer) outcome =
    (outcome ≡ noted as_faults (Ok answer.1)) ⊎ IsUntoldOf outcome
UnpackedTold as_faults (Err r) outcome = outcome ≡ Err r

-- the first fault, and what is noted of the file, come of it, unless it is not told how many frames
-- there are
abbrev pub AllToldOf : Bool → Result (JudgedCounts × Notes) Refusal → Outcome → Type 0
AllToldOf as_faults (Ok answer) outcome =
    (outcome ≡ first_judged as_faults answer.0.first answer.1) ⊎ IsUntoldOf outcome
AllToldOf as_faults (Err r) outcome = outcome ≡ Err r

-- by which readers are of the file that was opened and which writers of the one that was made, why
-- they could not be, and what readers give and writers hold
module _ {R W : Type 0} (opens : R → Type 0) (makes : W → Type 0) (refuses : Refusal → Type 0)
    (bytes : R → Option (List ℕ)) (reads_failed : R → ℕ) (contents : W → Option (List ℕ))
    (writes_failed : W → ℕ) where
  -- both were opened, and of what was read of the one, and of the writer of the other, as it was
  -- made and as it was left, this is said; or they could not be opened, and that is what comes of
  -- it
  abbrev pub OfFiles : (Passage → W → W → Type 0) → Outcome → Type 0
  OfFiles Says outcome =
      ((first : R) × (last : R) × (begin : W) × (end : W) × opens first × makes begin
      × Says (passage bytes reads_failed first last) begin end)
      ⊎ ((r : Refusal) × refuses r × (outcome ≡ Err r))

  abbrev pub PacksIn : Overwriting W → Bool → Choice → Outcome → Type 0
  PacksIn overwrites is_matroska choice outcome = OfFiles (λ input begin end.
      (answer : Result Counts Refusal)
      × PacksInto is_matroska choice input (passage contents writes_failed begin end) answer
      × AsksInto contents writes_failed overwrites is_matroska choice input begin end answer
      × ToldOf answer outcome) outcome

  abbrev pub UnpacksIn : Unpacking → Outcome → Type 0
  UnpacksIn how outcome = OfFiles (λ input begin end. (answer : Result (ℕ × Notes) Refusal)
      × UnpacksInto how.range input (passage contents writes_failed begin end) answer
      × UnpackedTold how.notes_as_faults answer outcome) outcome

  abbrev pub UnpacksAllIn : Bool → Outcome → Type 0
  UnpacksAllIn as_faults outcome = OfFiles (λ input begin end. (lines : Passage)
      × (answer : Result (JudgedCounts × Notes) Refusal)
      × UnpacksAll input lines (passage contents writes_failed begin end) answer
      × AllToldOf as_faults answer outcome) outcome

  -- all of it, or frames of it
  abbrev pub UnpacksEither : Bool → Unpacking → Outcome → Type 0
  UnpacksEither true how = UnpacksAllIn how.notes_as_faults
  UnpacksEither false how = UnpacksIn how

  abbrev pub UnpacksBy : Unpacking → Outcome → Type 0
  UnpacksBy how = UnpacksEither how.all how
