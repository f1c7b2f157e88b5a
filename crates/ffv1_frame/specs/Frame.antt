-- Which payloads code a picture, and which one an encoder writes (RFC 9043, 4.4 to 4.9).
use Rattle.std.specs.Prelude.{◌≡◌, ℕ, ◌*◌, ◌<◌, List, [], ◌++◌, map, length}
use Rattle.std.specs.List.{range_with_len}
use Rattle.ffv1_range.specs.Interval.{interval_of}
use Rattle.ffv1_range.specs.Codes.{sentinel_of}
use Rattle.ffv1_range.specs.History.{decisions_after}
use Rattle.ffv1_record.specs.Accepted.{Accepted}
use Rattle.ffv1_slice.specs.Head.{is_aspect}
use Rattle.ffv1_slice.specs.Footer.{foot_length, footer_of}
use Rattle.ffv1_slice.specs.Cutting.{Cuts, coded_of, joined_of}
use Rattle.ffv1_frame.specs.Picture.{Planes, IsPicture}
use Rattle.ffv1_frame.specs.SliceList.{Said, chosen_slice}
use Rattle.ffv1_frame.specs.CodedSlice.{CodesSlice}
use Rattle.std.specs.Prelude.{true}

-- what a head of the profile may say
pub record IsSaid (info : Said) : Type 0 where
  pub structure : info.structure < 4
  pub aspect : is_aspect info.sar_num info.sar_den ≡ true

-- the payload codes the picture: it is a row of sound slices, and each codes its part
pub record CodesPicture (a : Accepted) (payload : List ℕ) (planes : Planes) (info : Said)
    : Type 0 where
  pub picture : IsPicture a.configuration planes
  pub spans : ℕ → ℕ
  pub cuts : Cuts a.configuration payload spans
  pub slices : (n : ℕ) → n < a.configuration.columns * a.configuration.rows →
      CodesSlice (coded_of payload (foot_length a.configuration.ec) spans n) a planes info n

-- the coded bytes of slice n that an encoder writes: the sentinel ending of its decisions
abbrev pub slice_bytes : Accepted → Planes → Said → ℕ → List ℕ
slice_bytes a planes info n =
    sentinel_of (interval_of (decisions_after a.table []
    (chosen_slice a.configuration planes info n)))

-- the coded bytes of slice n and their footer
abbrev pub sealed_slice : Accepted → Planes → Said → ℕ → List ℕ
sealed_slice a planes info n =
    slice_bytes a planes info n ++ footer_of a.configuration.ec (slice_bytes a planes info n)

-- those of all slices, in raster order
abbrev pub slices_bytes : Accepted → Planes → Said → List (List ℕ)
slices_bytes a planes info =
    map (slice_bytes a planes info)
    (range_with_len 0 (a.configuration.columns * a.configuration.rows))

-- the payload that an encoder writes: each slice after the other, with its footer
abbrev pub frame_of : Accepted → Planes → Said → List ℕ
frame_of a planes info = joined_of a.configuration.ec (slices_bytes a planes info)

-- a slice has more coded bytes than a footer can say
pub record HasLongSlice (a : Accepted) (planes : Planes) (info : Said) : Type 0 where
  pub slice : ℕ
  pub inside : slice < a.configuration.columns * a.configuration.rows
  pub long : 16777215 < length (slice_bytes a planes info slice)
