-- What a writer keeps of its Clusters' places.
use Rattle.std.specs.Prelude.{◌≡◌, ℕ, ◌+◌, ◌*◌, ◌^◌, ◌<◌, ◌≤◌, ◌==◌, ◌&&◌, if◌then◌else◌, List}
use Rattle.std.specs.Prelude.{[], ◌∷◌, ◌++◌, length}
use Rattle.ffv1_matroska.specs.Written.{first_place}
use Rattle.ffv1_matroska.specs.WrittenPlaces.{every, last_place, most_cues}
use Rattle.ffv1_matroska.specs.Writers.{Writing}

-- of so many Clusters the places of every stride-th are kept
pub record Kept (count stride : ℕ) (places : List ℕ) : Type 0 where
  pub some : 0 < stride
  pub few : length places ≤ most_cues
  pub reach : count ≤ stride * length places
  pub near : stride * length places < count + stride
  pub low : stride ≤ count + 1

-- the stride once one more is there
abbrev pub stride_after : ℕ → ℕ → List ℕ → ℕ
stride_after count stride places =
    if (count == stride * length places) && (length places == most_cues) then 2 * stride
    else stride

-- the places once one more is there
abbrev pub with_place : ℕ → ℕ → ℕ → List ℕ → List ℕ
with_place count stride place places =
    if count == stride * length places
    then (if length places == most_cues then every 2 places ++ place ∷ []
    else places ++ place ∷ [])
    else places

-- what holds of a writer whose places have so much room, and its copy of the record so much
pub record Keeping (w : Writing) (room copy : ℕ) : Type 0 where
  pub kept : Kept w.count w.stride w.places
  pub room_is : room ≡ most_cues
  pub copy_is : copy ≡ length w.head.config_record
  pub counted : 41 * w.count ≤ w.at
  pub begins : 148 ≤ w.at
  pub fits : w.at < 2 ^ 63 + 2 ^ 20
  pub ends : 0 < w.count → w.at ≤ last_place
  pub first : w.count ≡ 0 → w.at ≡ first_place w.head w.details
