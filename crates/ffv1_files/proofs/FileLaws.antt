-- Files of either container are read as those of it.
use Rattle.std.proofs.Common.{◌≡◌, ◌⊎◌, refl, ℕ, Bool, true, false, Option, Some, None, Result, Ok, Err, List, [], ◌++◌, inl, inr, ap, sym, ◌∙◌}
use Rattle.ffv1_reads.specs.Head.{Head, without_colour}
use Rattle.ffv1_reads.specs.Reads.{Stop, read_on, given}
use Rattle.ffv1_avi.specs.Chunks.{AviFile, IsWritable}
use Rattle.ffv1_avi.specs.Behind.{RiffFileThen}
use Rattle.ffv1_avi.specs.OpenFiles.{OpenFile}
use Rattle.ffv1_avi.specs.Riffs.{RiffFile}
use Rattle.ffv1_avi.specs.Files as avi
use Rattle.ffv1_avi.specs.Written.{file_of}
use Rattle.ffv1_avi.specs.declared.place.Extent.{Extent}
use Rattle.ffv1_avi.specs.declared.place.Extent.TheVariants.{FirstMovi, EveryRiff}
use Rattle.ffv1_avi.specs.declared.place.Place.{Place as AviPlace}
use Rattle.ffv1_matroska.specs.Late.{again_read, file_again_read}
use Rattle.ffv1_matroska.specs.SegmentFiles.{SegmentFile}
use Rattle.ffv1_matroska.specs.Files as matroska
use Rattle.ffv1_matroska.specs.Opened as opened
use Rattle.ffv1_matroska.specs.declared.place.Place.{Place as MatroskaPlace}
use Rattle.ffv1_files.specs.declared.container.Scope.{Scope}
use Rattle.ffv1_files.specs.declared.container.Scope.TheVariants as scope
use Rattle.ffv1_files.specs.Files.{avi_opened, avi_place, file_read, frame_read, frames_read, is_matroska, matroska_begun, matroska_opened, matroska_place, more_frames, open_read}
use Rattle.ffv1_files.specs.Places.{InAvi, InMatroska, Place, extent_in}
use Rattle.ffv1_files.specs.Whole.{IsWhole}
use Rattle.ffv1_matroska.specs.declared.track.TrackNumbers.{TrackNumbers}

-- frames in turn
module _ (next : (place : AviPlace) (text : List ℕ) → avi.frames_read place text ≡ read_on (avi.frame_read place text) (avi.more_frames avi.frames_read))
    (on : (track : TrackNumbers) (place : MatroskaPlace) (text : List ℕ) → matroska.frames_read track place text ≡ read_on (matroska.frame_read track place text) (matroska.more_frames (matroska.frames_read track))) where
  avi_turn : (r : Result (Option (List ℕ × AviPlace) × List ℕ) Stop) → read_on r (avi.more_frames avi.frames_read) ≡ read_on (read_on r (λ o. given (avi_place o))) (more_frames frames_read)
  unfolding frames_read
  avi_turn (Err why) = refl
  avi_turn (Ok (None, text)) = refl
  avi_turn (Ok (Some p, text)) = refl

  matroska_turn : (segment : Option ℕ) (track : TrackNumbers) (r : Result (Option (List ℕ × MatroskaPlace) × List ℕ) Stop) →
      read_on r (matroska.more_frames (matroska.frames_read track)) ≡ read_on (read_on r (λ o. given (matroska_place segment track o))) (more_frames frames_read)
  unfolding frames_read
  matroska_turn segment track (Err why) = refl
  matroska_turn segment track (Ok (None, text)) = refl
  matroska_turn segment track (Ok (Some p, text)) = refl

  pub in_turn : (place : Place) (text : List ℕ) → frames_read place text ≡ read_on (frame_read place text) (more_frames frames_read)
  unfolding frames_read frame_read
  in_turn (InAvi place) text = next place text ∙ avi_turn (avi.frame_read place text)
  in_turn (InMatroska segment track place) text = on track place text ∙ matroska_turn segment track (matroska.frame_read track place text)

-- a file up to its frames, and all of it
abbrev Pair : Type 0
Pair = Head × List (List ℕ)

abbrev with_frames : Head × Place → List ℕ → Result (Pair × List ℕ) Stop
with_frames p text = read_on (frames_read p.1 text) (λ frames. given (p.0, frames))

abbrev avi_pairs : Result ((Head × AviPlace) × List ℕ) Stop → Result (Pair × List ℕ) Stop
avi_pairs r = read_on {Y = Pair} r (λ p text. read_on (avi.frames_read p.1 text) (λ frames. given (p.0, frames)))

avi_open : (r : Result ((Head × AviPlace) × List ℕ) Stop) → read_on {Y = Pair} (read_on r (λ p. given (p.0, InAvi p.1))) with_frames ≡ avi_pairs r
unfolding frames_read
avi_open (Err why) = refl
avi_open (Ok p) = refl

avi_same : (extent : Extent) (text : List ℕ) → read_on (avi_opened extent text) with_frames ≡ avi.file_read extent text
avi_same extent text = avi_open (avi.open_read extent text)

abbrev matroska_pairs : Result (opened.Opened × List ℕ) Stop → Result (Pair × List ℕ) Stop
matroska_pairs r = read_on {Y = Pair} r (λ o text. read_on (matroska.frames_read o.track.numbers o.place text) (λ frames. given (o.track.head, frames)))

matroska_open : (r : Result (opened.Opened × List ℕ) Stop) → read_on {Y = Pair} (read_on r matroska_begun) with_frames ≡ matroska_pairs r
unfolding frames_read
matroska_open (Err why) = refl
matroska_open (Ok p) = refl

matroska_same : (text : List ℕ) → read_on (matroska_opened text) with_frames ≡ file_again_read text
unfolding file_again_read
matroska_same text = matroska_open (again_read text)

pub first_same : (text : List ℕ) → file_read scope.FirstMovi text ≡ avi.file_read FirstMovi text
unfolding open_read
first_same text = avi_same FirstMovi text

pub whole_avi : (text : List ℕ) → is_matroska text ≡ false → file_read scope.Whole text ≡ avi.file_read EveryRiff text
unfolding open_read
whole_avi text is = rw is (avi_same EveryRiff text)

pub whole_matroska : (text : List ℕ) → is_matroska text ≡ true → file_read scope.Whole text ≡ file_again_read text
unfolding open_read
whole_matroska text is = rw is (matroska_same text)

-- a file that is read whole
module _ (whole : (file : List ℕ) (head : Head) (frames : List (List ℕ)) (rest : List ℕ) → avi.file_read EveryRiff file ≡ Ok ((head, frames), rest) → RiffFileThen file head frames rest ⊎ (OpenFile file head frames × (rest ≡ [])))
    (elements : (file : List ℕ) (head : Head) (frames : List (List ℕ)) (rest : List ℕ) → file_again_read file ≡ Ok ((head, frames), rest) → (is : SegmentFile file head frames) × (is.rest ≡ rest)) where
  pub read_whole : (file : List ℕ) (head : Head) (frames : List (List ℕ)) (rest : List ℕ) → file_read scope.Whole file ≡ Ok ((head, frames), rest) → IsWhole file head frames rest
  read_whole file head frames rest h = on_first (is_matroska file) refl
    where
      on_first : (b : Bool) → is_matroska file ≡ b → IsWhole file head frames rest
      on_first false is = inl (whole file head frames rest (sym (whole_avi file is) ∙ h))
      on_first true is = inr (is, elements file head frames rest (sym (whole_matroska file is) ∙ h))

-- the first movi
module _ (is_file : (file : List ℕ) (head : Head) (frames : List (List ℕ)) (rest : List ℕ) → avi.file_read FirstMovi file ≡ Ok ((head, frames), rest) → AviFile file head frames)
    (is_read : (file : List ℕ) (head : Head) (frames : List (List ℕ)) (is : AviFile file head frames) → avi.file_read FirstMovi file ≡ Ok ((head, frames), is.rest)) where
  same_rest : {X : Type 0} (x y : X) (rest more : List ℕ) (r : Result (X × List ℕ) Stop) → r ≡ Ok (x, rest) → r ≡ Ok (y, more) → rest ≡ more
  same_rest {X = X} x y rest more r e f =
      let same : (x, rest) ≡ (y, more) = cc in
      ap (λ (z : X × List ℕ). z.1) same

  pub read_first : (file : List ℕ) (head : Head) (frames : List (List ℕ)) (rest : List ℕ) → file_read scope.FirstMovi file ≡ Ok ((head, frames), rest) → (is : AviFile file head frames) × (rest ≡ is.rest)
  read_first file head frames rest h =
      let read : avi.file_read FirstMovi file ≡ Ok ((head, frames), rest) = sym (first_same file) ∙ h in
      let is = is_file file head frames rest read in
      (is, same_rest (head, frames) (head, frames) rest is.rest (avi.file_read FirstMovi file) read (is_read file head frames is))

pub first_read : ((file : List ℕ) (head : Head) (frames : List (List ℕ)) (is : AviFile file head frames) → avi.file_read FirstMovi file ≡ Ok ((head, frames), is.rest)) →
    (file : List ℕ) (head : Head) (frames : List (List ℕ)) (is : AviFile file head frames) → file_read scope.FirstMovi file ≡ Ok ((head, frames), is.rest)
first_read is_read file head frames is = first_same file ∙ is_read file head frames is

-- an AVI does not begin with the byte of a Matroska file
riff_first : (file : List ℕ) (head : Head) (frames : List (List ℕ)) → RiffFile file head frames → is_matroska file ≡ false
riff_first file head frames is = ap is_matroska is.bytes

then_first : (file : List ℕ) (head : Head) (frames : List (List ℕ)) (rest : List ℕ) → RiffFileThen file head frames rest → is_matroska file ≡ false
then_first file head frames rest h = ap is_matroska (h.bytes ∙ ap (λ z. z ++ h.behind) h.is.bytes)

open_first : (file : List ℕ) (head : Head) (frames : List (List ℕ)) → OpenFile file head frames → is_matroska file ≡ false
open_first file head frames is = ap is_matroska is.bytes

module _ (every_then : (file : List ℕ) (head : Head) (frames : List (List ℕ)) (rest : List ℕ) → RiffFileThen file head frames rest → avi.file_read EveryRiff file ≡ Ok ((head, frames), rest))
    (every_open : (file : List ℕ) (head : Head) (frames : List (List ℕ)) → OpenFile file head frames → avi.file_read EveryRiff file ≡ Ok ((head, frames), []))
    (elements : (file : List ℕ) (head : Head) (frames : List (List ℕ)) (is : SegmentFile file head frames) → file_again_read file ≡ Ok ((head, frames), is.rest)) where
  pub whole_read : (file : List ℕ) (head : Head) (frames : List (List ℕ)) (rest : List ℕ) → IsWhole file head frames rest → file_read scope.Whole file ≡ Ok ((head, frames), rest)
  whole_read file head frames rest (inl (inl h)) = whole_avi file (then_first file head frames rest h) ∙ every_then file head frames rest h
  whole_read file head frames rest (inl (inr h)) = whole_avi file (open_first file head frames h.0) ∙ every_open file head frames h.0 ∙ ap (λ z. Ok ((head, frames), z)) (sym h.1)
  whole_read file head frames rest (inr h) = whole_matroska file h.0 ∙ elements file head frames h.1.0 ∙ ap (λ z. Ok ((head, frames), z)) h.1.1

module _ (first : (head : Head) (frames : List (List ℕ)) → IsWritable FirstMovi head frames → avi.file_read FirstMovi (file_of head frames) ≡ Ok ((without_colour head, frames), []))
    (riff : (head : Head) (frames : List (List ℕ)) → IsWritable EveryRiff head frames → RiffFile (file_of head frames) (without_colour head) frames)
    (every : (head : Head) (frames : List (List ℕ)) → IsWritable EveryRiff head frames → avi.file_read EveryRiff (file_of head frames) ≡ Ok ((without_colour head, frames), [])) where
  pub written_read : (s : Scope) (head : Head) (frames : List (List ℕ)) → IsWritable (extent_in s) head frames → file_read s (file_of head frames) ≡ Ok ((without_colour head, frames), [])
  written_read scope.FirstMovi head frames can = first_same (file_of head frames) ∙ first head frames can
  written_read scope.Whole head frames can = whole_avi (file_of head frames) (riff_first (file_of head frames) (without_colour head) frames (riff head frames can)) ∙ every head frames can
