-- What is packed into Matroska is unpacked: of a text that was packed, the file that was written.
use Rattle.std.specs.Prelude.{◌≡◌, ℕ, true, List, Some}
use Rattle.ffv1_wire.specs.Passage.{Passage}
use Rattle.ffv1_range.specs.Codes.{AreBytes}
use Rattle.ffv1_matroska.specs.MatroskaFiles.{MatroskaFile}
use Rattle.ffv1_y4m.specs.VideoHead.{IsRatio}
use Rattle.ffv1_words.specs.declared.order.Choice.{Choice}
use Rattle.ffv1_pack.specs.declared.matroska_packing.PackedMatroska.{PackedMatroska}
use Rattle.ffv1_video.specs.declared.profile.Profile.{Profile}
use Rattle.ffv1_video.specs.declared.profile.Profile.TheVariants.{Wide}
use Rattle.ffv1_pack.specs.PackMatroska.{PacksMatroska, whole_file}
use Rattle.ffv1_video.specs.Colours.{IsByteColour, shown}
use Rattle.ffv1_engine.specs.RoundTrip.{HoldsBy}
use Rattle.ffv1_video.specs.Video.{Video}

-- a text of bytes that was packed into Matroska in a profile. PPM has the rate and the scale of the
-- choice, whose numbers of colours are of 8 bits
pub record WasPackedMatroska (packing : Profile) (choice : Choice) (text : List ℕ)
    : Type 0 where
  pub input : Passage
  pub output : Passage
  pub packed : PackedMatroska
  pub packs : PacksMatroska packing choice input output packed
  pub known : input.old ≡ Some text
  pub bytes : AreBytes text
  pub rated : packs.video.ppm ≡ true → IsRatio 4294967295 choice.rate choice.scale
  pub coloured : IsByteColour choice.colour

-- the video of the text, and with what the choice says of its colours
abbrev pub matroska_text : {packing : Profile} → {choice : Choice} → {text : List ℕ} →
    WasPackedMatroska packing choice text → Video
matroska_text w = w.packs.video

abbrev pub matroska_video : {packing : Profile} → {choice : Choice} → {text : List ℕ} →
    WasPackedMatroska packing choice text → Video
matroska_video {choice = choice} w = shown choice (matroska_text w)

-- the file that was written of it: finished, or open

abbrev pub matroska_file : {packing : Profile} → {choice : Choice} → {text : List ℕ} →
    WasPackedMatroska packing choice text → List ℕ
matroska_file {choice = choice} w =
    whole_file w.packed.finished choice w.packs.video w.packs.accepted

-- it holds the stream of that video
abbrev pub HoldsMatroska : List ℕ → Video → Type 0
HoldsMatroska file v = HoldsBy MatroskaFile Wide file v
