-- The pictures after a header: each a line FRAME and the samples of its planes.
use Rattle.std.specs.Prelude.{◌≡◌, ℕ, ◌<◌, ◌==◌, ◌++◌, Bool, true, false, if◌then◌else◌, nat_lt}
use Rattle.std.specs.Prelude.{List, [], ◌∷◌, length, take, drop, map, codes, flat_map, Option, Ok}
use Rattle.std.specs.Prelude.{Err}
use Rattle.ffv1_y4m.specs.Sequence.{Reading, ◌then◌, give, where_begun}
use Rattle.ffv1_samples.specs.Samples.{are_in_depth}
use Rattle.ffv1_y4m.specs.VideoHead.{AreInDepth, plane_bytes}
use Rattle.ffv1_y4m.specs.declared.head.VideoHead.{VideoHead}
use Rattle.ffv1_y4m.specs.declared.fault.Fault.TheVariants as fault

-- the line that begins a picture
abbrev pub frame_line : List ℕ
frame_line = codes "FRAME\n"

-- the samples of a plane, so many bytes; each below 2 ^ depth
abbrev pub plane_read : ℕ → ℕ → Reading (List ℕ)
plane_read depth size text =
    if nat_lt (length text) size then Err (fault.FrameTruncated, [])
    else if are_in_depth depth (take size text) then Ok (take size text, drop size text)
    else Err (fault.SampleTooLarge, drop size text)

-- the planes of these sizes, one after the other
abbrev pub planes_read : ℕ → List ℕ → Reading (List (List ℕ))
planes_read depth [] = give []
planes_read depth (size ∷ sizes) =
    plane_read depth size then λ plane. planes_read depth sizes then λ planes.
    give (plane ∷ planes)

-- these bytes, one by one: the first that differs, or the end of the text before it, is the fault
abbrev pub bytes_read : List ℕ → Reading Bool
bytes_read [] text = Ok (true, text)
bytes_read (b ∷ bytes) [] = Err (fault.FrameTruncated, [])
bytes_read (b ∷ bytes) (c ∷ cs) = if c == b then bytes_read bytes cs else Err (fault.FrameLine, cs)

-- whether a text has ended, or begins with these bytes, after which it then stands
abbrev pub begun_with : List ℕ → Reading Bool
begun_with line [] = Ok (false, [])
begun_with line (c ∷ cs) = bytes_read line (c ∷ cs)

-- the same of the line that begins a picture
unfoldable pub frame_begun : Reading Bool
frame_begun = begun_with frame_line

-- the next picture of a text, or None at its end
abbrev pub picture_read : ℕ → VideoHead → Reading (Option (List (List ℕ)))
picture_read depth head = frame_begun then where_begun (planes_read depth (plane_bytes depth head))

-- the text of a picture: the line that begins it, and the samples of its planes
abbrev pub picture_text : List (List ℕ) → List ℕ
picture_text planes = frame_line ++ flat_map (λ plane. plane) planes

-- where memory may be refused: after the line that begins a picture and some of its planes, not
-- all of them
abbrev pub GrowsBeforePlane : ℕ → List ℕ → List ℕ → Type 0
GrowsBeforePlane depth sizes bytes =
    (planes : List (List ℕ)) × (bytes ≡ flat_map (λ plane. plane) planes)
    × (length planes < length sizes)
    × (map (λ plane. length plane) planes ≡ take (length planes) sizes)
    × AreInDepth depth planes

abbrev pub GrowsInPicture : ℕ → VideoHead → List ℕ → Type 0
GrowsInPicture depth head bytes =
    (samples : List ℕ) × (bytes ≡ frame_line ++ samples)
    × GrowsBeforePlane depth (plane_bytes depth head) samples
