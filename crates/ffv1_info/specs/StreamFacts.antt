-- The facts of a stream: what its file's head, its record and its first picture say, and how many
-- frames it has.
use Rattle.std.specs.Prelude.{ℕ, ◌*◌, ◌/◌, ◌^◌, ◌==◌, ◌&&◌, Bool, true, false, if◌then◌else◌}
use Rattle.std.specs.Prelude.{List, [], ◌++◌, codes, length}
use Rattle.std.specs.Prelude.{Option, Some, None}
use Rattle.ffv1_reads.specs.Head.{Head}
use Rattle.ffv1_record.specs.Configuration.{Configuration, is_rct}
use Rattle.ffv1_record.specs.declared.config.Coder.{Coder}
use Rattle.ffv1_record.specs.declared.config.Coder.TheVariants as coder
use Rattle.ffv1_frame.specs.SliceList.{Said}
use Rattle.ffv1_matroska.specs.Rates.{common_up_to}
use Rattle.ffv1_outline.specs.declared.facts.Form.{Form}
use Rattle.ffv1_outline.specs.Durations.{frames_last, seconds}
use Rattle.ffv1_outline.specs.Facts.{fact, named_fact, number_fact, pair_fact, truth_fact}
use Rattle.ffv1_outline.specs.Facts.{unknown_fact, word_fact}
use Rattle.ffv1_info.specs.Contexts.{contexts_facts}
use Rattle.ffv1_info.specs.Names.{fields_name, matrix_name, primaries_name, range_name, siting_name}
use Rattle.ffv1_info.specs.Names.{transfer_name}

-- ---- the head of a file

-- frames a second, if they are known
abbrev pub rate_fact : Form → ℕ → ℕ → List ℕ
rate_fact form rate scale =
    if rate == 0 then unknown_fact form (codes "rate")
    else pair_fact form (codes "rate") rate (codes "/") scale

-- a number of H.273: 2 says nothing
abbrev pub code_fact : Form → List ℕ → List ℕ → ℕ → List ℕ
code_fact form name word n =
    if n == 2 then unknown_fact form name else named_fact form name word n

-- a range: 0 says nothing
abbrev pub range_fact : Form → ℕ → List ℕ
range_fact form n =
    if n == 0 then unknown_fact form (codes "range")
    else named_fact form (codes "range") (range_name n) n

-- where chroma lies across and down: both 0 say nothing; by its name, or by both numbers
abbrev pub siting_fact : Form → ℕ → ℕ → List ℕ
siting_fact form across down =
    if across == 0 && down == 0 then unknown_fact form (codes "siting")
    else if length (siting_name across down) == 0
    then pair_fact form (codes "siting") across (codes ",") down
    else word_fact form (codes "siting") (siting_name across down)

unfoldable pub head_facts : Form → Head → List ℕ
head_facts form head =
    pair_fact form (codes "size") head.width (codes "x") head.height
    ++ rate_fact form head.rate head.scale
    ++ range_fact form head.colour.range
    ++ siting_fact form head.colour.siting_across head.colour.siting_down
    ++ code_fact form (codes "primaries") (primaries_name head.colour.primaries)
    head.colour.primaries
    ++ code_fact form (codes "transfer") (transfer_name head.colour.transfer) head.colour.transfer
    ++ code_fact form (codes "matrix") (matrix_name head.colour.matrix) head.colour.matrix

-- ---- the record

-- RFC 9043, 4.2.5
abbrev pub colours_name : Bool → List ℕ
colours_name false = codes "YCbCr"
colours_name true = codes "RGB"

-- the name of chroma that is by these powers of two narrower and lower than the picture
unfoldable pub chroma_name : ℕ → ℕ → List ℕ
chroma_name across down =
    if across == 0 && down == 0 then codes "4:4:4"
    else if across == 1 && down == 0 then codes "4:2:2"
    else if across == 1 && down == 1 then codes "4:2:0"
    else if across == 2 && down == 0 then codes "4:1:1"
    else if across == 2 && down == 2 then codes "4:1:0"
    else if across == 0 && down == 1 then codes "4:4:0"
    else []

-- that name, or how many times it is narrower and lower
abbrev pub chroma_fact : Form → Bool → ℕ → ℕ → List ℕ
chroma_fact form false across down = word_fact form (codes "chroma") (codes "mono")
chroma_fact form true across down =
    if length (chroma_name across down) == 0
    then pair_fact form (codes "chroma") (2 ^ across) (codes ",") (2 ^ down)
    else word_fact form (codes "chroma") (chroma_name across down)

-- RFC 9043, 4.2.3
abbrev pub coder_name : Coder → List ℕ
coder_name coder.Rice = codes "Golomb-Rice coder"
coder_name coder.One = codes "range coder, default table"
coder_name (coder.Two deltas) = codes "range coder, custom table"

unfoldable pub record_facts : Form → Configuration → List ℕ
record_facts form c =
    number_fact form (codes "bits") c.depth
    ++ word_fact form (codes "colours") (colours_name (is_rct c.colour))
    ++ chroma_fact form c.chroma_planes c.log2_h c.log2_v
    ++ truth_fact form (codes "transparency") c.extra_plane
    ++ pair_fact form (codes "slices") c.columns (codes "x") c.rows
    ++ word_fact form (codes "coder") (coder_name c.coder)
    ++ contexts_facts form c.sets
    ++ truth_fact form (codes "parity") c.ec
    ++ truth_fact form (codes "key_frames") c.intra

-- ---- the first picture

abbrev pub fields_fact : Form → ℕ → List ℕ
fields_fact form structure =
    if structure == 0 then unknown_fact form (codes "fields")
    else word_fact form (codes "fields") (fields_name structure)

-- the aspect of a sample, unknown if its numbers are 0
abbrev pub sample_fact : Form → ℕ → ℕ → List ℕ
sample_fact form num den =
    if num == 0 then unknown_fact form (codes "sample_aspect")
    else pair_fact form (codes "sample_aspect") num (codes ":") den

-- two numbers over the greatest that divides both
abbrev pub reduced_fact : Form → List ℕ → ℕ → ℕ → List ℕ
reduced_fact form name a b =
    pair_fact form name (a / common_up_to a b b) (codes ":") (b / common_up_to a b b)

-- the aspect of a picture, so many samples wide and high
abbrev pub display_fact : Form → ℕ → ℕ → ℕ → ℕ → List ℕ
display_fact form width height num den =
    if num == 0 then unknown_fact form (codes "display_aspect")
    else reduced_fact form (codes "display_aspect") (width * num) (height * den)

-- what a picture of this configuration says, unknown if there is none
unfoldable pub picture_facts : Form → ℕ → ℕ → Option Said → List ℕ
picture_facts form width height None =
    unknown_fact form (codes "fields") ++ unknown_fact form (codes "sample_aspect")
    ++ unknown_fact form (codes "display_aspect")
picture_facts form width height (Some s) =
    fields_fact form s.structure ++ sample_fact form s.sar_num s.sar_den
    ++ display_fact form width height s.sar_num s.sar_den

-- ---- how many frames there are

-- how long they last, to the nearest millisecond; unknown if the rate is
abbrev pub duration_fact : Form → ℕ → ℕ → ℕ → List ℕ
duration_fact form rate scale frames =
    fact form (codes "counted_duration") (seconds form (frames_last frames scale rate))

unfoldable pub counted_facts : Form → Head → ℕ → List ℕ
counted_facts form head frames =
    number_fact form (codes "counted_frames") frames
    ++ duration_fact form head.rate head.scale frames
