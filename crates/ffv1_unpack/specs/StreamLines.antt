-- The lines that are written of a file's head and of the configuration of its frames.
use Rattle.std.specs.Prelude.{ℕ, Bool, true, false, List, [], ◌++◌, codes, decimal, flat_map}
use Rattle.std.specs.Prelude.{if◌then◌else◌, nat_lt, Some, None}
use Rattle.std.specs.List.{list_any}
use Rattle.ffv1_range.specs.Weight.{one_if}
use Rattle.ffv1_plane.specs.Quantisation.{Set, contexts_of}
use Rattle.ffv1_record.specs.declared.checked.Held.{Held}
use Rattle.ffv1_record.specs.declared.config.Coder.{Coder}
use Rattle.ffv1_record.specs.declared.config.Coder.TheVariants as coder
use Rattle.ffv1_record.specs.declared.config.Colour.{Colour}
use Rattle.ffv1_record.specs.declared.config.Colour.TheVariants as colour
use Rattle.ffv1_record.specs.Held.{held_of}
use Rattle.ffv1_files.specs.declared.container.Container.{Container}
use Rattle.ffv1_files.specs.declared.container.Container.TheVariants as container
use Rattle.ffv1_unpack.specs.Stream.{Stream}
use Rattle.ffv1_video.specs.NumberLines.{pair_line}

-- a line of a name and a number
unfoldable pub number_line : List ℕ → ℕ → List ℕ
number_line name n = name ++ decimal n ++ codes "\n"

-- RFC 9043, 4.2.3: coder_type
abbrev pub coder_type : Coder → ℕ
coder_type coder.Rice = 0
coder_type coder.One = 1
coder_type (coder.Two deltas) = 2

-- RFC 9043, 4.2.5
abbrev pub colour_line : Colour → List ℕ
colour_line colour.YCbCr = codes "colour YCbCr\n"
colour_line colour.Rct = codes "colour RCT\n"

-- RFC 9043, 4.2.6, 4.2.8 and 4.2.9: no chroma, or by which powers of two it is narrower and lower
abbrev pub chroma_line : Bool → ℕ → ℕ → List ℕ
chroma_line false log2_h log2_v = codes "chroma mono\n"
chroma_line true log2_h log2_v = pair_line (codes "chroma ") log2_h (codes ",") log2_v

-- RFC 9043, 4.2.10: a line if there is an extra plane
abbrev pub extra_line : Bool → List ℕ
extra_line false = []
extra_line true = codes "extra 1\n"

-- RFC 9043, 4.2.7: a line if a sample has more than 8 bits
abbrev pub depth_line : ℕ → List ℕ
depth_line depth = if nat_lt 8 depth then number_line (codes "depth ") depth else []

-- the contexts of each set
unfoldable pub contexts_line : List Set → List ℕ
contexts_line sets =
    codes "contexts" ++ flat_map (λ set. codes " " ++ decimal (contexts_of set)) sets ++ codes "\n"

-- a set that FFmpeg refuses, as do programs that decode by it: its tables' numbers of values, each
-- of them odd, make a product above 32768
abbrev pub is_wide : Set → Bool
is_wide set = nat_lt 16384 (contexts_of set)

-- a line if there is one
abbrev pub note_line : List Set → List ℕ
note_line sets =
    if list_any is_wide sets
    then codes "note other programs refuse sets of more than 16384 contexts\n"
    else []

-- how much a decoder holds
unfoldable pub held_line : Held → List ℕ
held_line held =
    codes "held states " ++ decimal held.states ++ codes " samples " ++ decimal held.samples
    ++ codes " output " ++ decimal held.output ++ codes " columns " ++ decimal held.columns
    ++ codes " offsets " ++ decimal held.offsets ++ codes "\n"

-- of Matroska how many bytes its Segment has, if that is known; nothing of AVI
abbrev pub segment_line : Container → List ℕ
segment_line container.Avi = []
segment_line (container.Matroska (Some size)) = number_line (codes "segment ") size
segment_line (container.Matroska None) = codes "segment open\n"

-- how many further tracks or streams are FFV1 video, if there are any
abbrev pub others_line : ℕ → List ℕ
others_line others =
    if nat_lt 0 others then number_line (codes "note 91 OtherVideo ") others else []

-- the lines of a stream in its container, beside so many others
abbrev pub show_text : Container → ℕ → Stream → List ℕ
show_text container others s =
    let c = s.accepted.configuration in
    pair_line (codes "size ") c.width (codes "x") c.height
    ++ number_line (codes "coder ") (coder_type c.coder)
    ++ colour_line c.colour
    ++ chroma_line c.chroma_planes c.log2_h c.log2_v
    ++ extra_line c.extra_plane
    ++ depth_line c.depth
    ++ pair_line (codes "slices ") c.columns (codes "x") c.rows
    ++ contexts_line c.sets
    ++ note_line c.sets
    ++ number_line (codes "ec ") (one_if c.ec)
    ++ number_line (codes "intra ") (one_if c.intra)
    ++ pair_line (codes "rate ") s.head.rate (codes "/") s.head.scale
    ++ others_line others
    ++ segment_line container
    ++ held_line (held_of c)
