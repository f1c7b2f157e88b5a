-- What can be written and is read back.
use Rattle.std.specs.Prelude.{◌≡◌, ℕ, ◌^◌, ◌<◌, ◌≤◌, All, List, [], ◌∷◌, drop, length, take}
use Rattle.ffv1_reads.specs.Colour.{IsColour}
use Rattle.ffv1_reads.specs.Head.{Head, frame_limit, limit}
use Rattle.ffv1_matroska.specs.Rates.{IsTimed}
use Rattle.ffv1_matroska.specs.Writers.{rate_in}
use Rattle.ffv1_matroska.specs.Written.{checked, end_place, entry_element}
use Rattle.ffv1_matroska.specs.WrittenPlaces.{last_place}
use Rattle.ffv1_matroska.specs.declared.track_entry.TrackEntry.{TrackEntry}

-- frames have bytes, and not too many
abbrev pub AreWritten : List (List ℕ) → Type 0
AreWritten [] = Unit {0}
AreWritten (frame ∷ frames) =
    ((0 < length frame) × (length frame ≤ frame_limit) × All (λ b. b < 256) frame)
    × AreWritten frames

-- numbers of 32 bits, colours of 8 bits, a rate that comes back, a record of bytes, Tracks within
-- the limit of reading, such frames, and an end that is not too far
pub record IsWritable (head : Head) (details : TrackEntry) (frames : List (List ℕ)) : Type 0 where
  pub width : head.width < 2 ^ 32
  pub height : head.height < 2 ^ 32
  pub rate : head.rate < 2 ^ 32
  pub scale : head.scale < 2 ^ 32
  pub colour : IsColour head.colour
  pub timed : IsTimed (rate_in head)
  pub record_is : All (λ b. b < 256) head.config_record
  pub short : length (checked (entry_element head details)) ≤ limit
  pub written : AreWritten frames
  pub near : end_place head details frames ≤ last_place

-- these bytes stand in a file from a position on
abbrev pub StandsAt : List ℕ → ℕ → List ℕ → Type 0
StandsAt file place bytes = take (length bytes) (drop place file) ≡ bytes
