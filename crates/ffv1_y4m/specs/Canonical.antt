-- The canonical text of a stream of pictures: each tag but X is written, in one order, and behind
-- them the tag X of the range, if there is one.
use Rattle.std.specs.Prelude.{ℕ, Bool, true, false, ◌==◌, if◌then◌else◌, List, [], ◌++◌, codes}
use Rattle.std.specs.Prelude.{decimal, flat_map, ◌&&◌, nat_lt, Option, Some, None}
use Rattle.ffv1_y4m.specs.Header.{or_else}
use Rattle.ffv1_y4m.specs.Pictures.{picture_text}
use Rattle.ffv1_y4m.specs.VideoHead.{has_siting, is_named}
use Rattle.ffv1_y4m.specs.declared.head.Range.{Range}
use Rattle.ffv1_y4m.specs.declared.head.Range.TheVariants as range
use Rattle.ffv1_y4m.specs.declared.head.Siting.{Siting}
use Rattle.ffv1_y4m.specs.declared.head.Siting.TheVariants as siting
use Rattle.ffv1_y4m.specs.declared.head.VideoHead.{VideoHead}

-- the letter of a structure: progressive, top first, bottom first, unknown
abbrev pub structure_name : ℕ → List ℕ
structure_name structure =
    if structure == 3 then codes "p"
    else if structure == 1 then codes "t"
    else if structure == 2 then codes "b"
    else codes "?"

-- the name of 4:2:0 of 8 bits, by where its chroma lies; `420jpeg` if that is not said
abbrev pub siting_name : Option Siting → List ℕ
siting_name None = codes "420jpeg"
siting_name (Some siting.Centre) = codes "420jpeg"
siting_name (Some siting.Left) = codes "420mpeg2"
siting_name (Some siting.TopLeft) = codes "420paldv"

-- the name of chroma planes of 8 bits
abbrev pub name_of_chroma : Bool → ℕ → ℕ → Bool → Option Siting → List ℕ
name_of_chroma planes log2_h log2_v extra siting =
    if planes
    then (if extra then codes "444alpha"
    else if log2_v == 1 then siting_name siting
    else if log2_h == 1 then codes "422"
    else if log2_h == 2 then codes "411"
    else codes "444")
    else codes "mono"

-- what comes before the depth in the name of chroma planes of more than 8 bits; nothing if there is
-- no name
abbrev pub deep_name : ℕ → Bool → ℕ → ℕ → Bool → List ℕ
deep_name depth planes log2_h log2_v extra =
    if is_named depth planes log2_h log2_v extra
    then (if planes
    then (if log2_v == 1 then codes "420p" else if log2_h == 1 then codes "422p" else codes "444p")
    else codes "mono")
    else []

-- the depth in a name, none at 8 bits
abbrev pub depth_name : ℕ → List ℕ
depth_name depth =
    if depth == 9 then codes "9"
    else if depth == 10 then codes "10"
    else if depth == 12 then codes "12"
    else if depth == 14 then codes "14"
    else if depth == 16 then codes "16"
    else []

-- the name of the chroma of a head, up to the depth in it
abbrev pub chroma_name : ℕ → VideoHead → List ℕ
chroma_name depth h =
    if depth == 8 then name_of_chroma h.chroma_planes h.log2_h h.log2_v h.extra_plane h.siting
    else deep_name depth h.chroma_planes h.log2_h h.log2_v h.extra_plane

-- a number after a tag's letter
unfoldable pub number_text : List ℕ → ℕ → List ℕ
number_text tag n = tag ++ decimal n

-- two numbers and a colon between them, after a tag's letter
unfoldable pub ratio_text : List ℕ → ℕ → ℕ → List ℕ
ratio_text tag n d = tag ++ (decimal n ++ (codes ":" ++ decimal d))

-- a name after a tag's letter
unfoldable pub name_text : List ℕ → List ℕ → List ℕ
name_text tag name = tag ++ name

-- the sizes: W H
unfoldable pub sizes_text : VideoHead → List ℕ
sizes_text h =
    codes "YUV4MPEG2" ++ (number_text (codes " W") h.width ++ number_text (codes " H") h.height)

-- the rate, the structure and the aspect: F I A
unfoldable pub times_text : VideoHead → List ℕ
times_text h =
    ratio_text (codes " F") h.rate h.scale
    ++ (name_text (codes " I") (structure_name h.structure)
    ++ ratio_text (codes " A") h.sar_num h.sar_den)

-- the tag of the range, as FFmpeg writes it, if there is one, and the line feed
abbrev pub range_end : Option Range → List ℕ
range_end None = codes "\n"
range_end (Some range.Limited) = codes " XCOLORRANGE=LIMITED\n"
range_end (Some range.Full) = codes " XCOLORRANGE=FULL\n"

-- the header: W H F I A C, and X of the range, one space before each, and a line feed
unfoldable pub header_text : ℕ → VideoHead → List ℕ
header_text depth h =
    sizes_text h
    ++ (times_text h
    ++ (name_text (codes " C") (chroma_name depth h)
    ++ name_text (depth_name depth) (range_end h.range)))

-- the canonical text of these pictures
abbrev pub canonical_text : ℕ → VideoHead → List (List (List ℕ)) → List ℕ
canonical_text depth h pictures = header_text depth h ++ flat_map picture_text pictures

-- what a writer writes for its next picture: the header before the first one
abbrev pub next_text : ℕ → VideoHead → Bool → List (List ℕ) → List ℕ
next_text depth h true planes = picture_text planes
next_text depth h false planes = header_text depth h ++ picture_text planes

-- the siting that a name says, if depths above 8 are read: in the centre if the head says
-- none
abbrev pub siting_said : Bool → ℕ → VideoHead → Option Siting
siting_said deep depth h =
    if has_siting depth h.chroma_planes h.log2_h h.log2_v && deep
    then Some (or_else h.siting siting.Centre) else None

-- a head as its canonical text says it, if depths up to `most` are read: siting and range are said
-- above 8 bits
abbrev pub as_said : ℕ → ℕ → VideoHead → VideoHead
as_said most depth h = record h {
  siting = siting_said (nat_lt 8 most) depth h;
  range = if nat_lt 8 most then h.range else None;
}
