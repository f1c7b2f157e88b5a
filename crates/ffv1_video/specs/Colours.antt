-- How the range of colours and the siting of chroma of a text stand in a file, in the numbers of
-- Matroska (RFC 9559, 5.1.4.1.28.23 to 5.1.4.1.28.25).
use Rattle.std.specs.Prelude.{ℕ, ◌<◌, ◌==◌, ◌&&◌, ◌||◌, Bool, not, if◌then◌else◌}
use Rattle.std.specs.Prelude.{Option, Some, None}
use Rattle.ffv1_record.specs.Configuration.{Configuration}
use Rattle.ffv1_reads.specs.declared.colour.Colour.{Colour}
use Rattle.ffv1_y4m.specs.VideoHead.{has_siting}
use Rattle.ffv1_y4m.specs.declared.head.Range.{Range}
use Rattle.ffv1_y4m.specs.declared.head.Range.TheVariants.{Full, Limited}
use Rattle.ffv1_y4m.specs.declared.head.Siting.{Siting}
use Rattle.ffv1_y4m.specs.declared.head.Siting.TheVariants.{Centre, Left, TopLeft}
use Rattle.ffv1_y4m.specs.declared.head.VideoHead.{VideoHead}
use Rattle.ffv1_words.specs.declared.order.Choice.{Choice}
use Rattle.ffv1_words.specs.declared.order.ColourChoice.{ColourChoice}
use Rattle.ffv1_words.specs.declared.order.RangeChoice.{RangeChoice}
use Rattle.ffv1_words.specs.declared.order.RangeChoice.TheVariants as range_choice
use Rattle.ffv1_words.specs.declared.order.SitingChoice.{SitingChoice}
use Rattle.ffv1_words.specs.declared.order.SitingChoice.TheVariants as siting_choice
use Rattle.ffv1_video.specs.Video.{SaidHead, Video}

-- Range
abbrev pub range_number : Option Range → ℕ
range_number None = 0
range_number (Some Limited) = 1
range_number (Some Full) = 2

abbrev pub range_named : ℕ → Option Range
range_named n = if n == 1 then Some Limited else if n == 2 then Some Full else None

-- ChromaSitingHorz
abbrev pub across_number : Option Siting → ℕ
across_number None = 0
across_number (Some Centre) = 2
across_number (Some Left) = 1
across_number (Some TopLeft) = 1

-- ChromaSitingVert
abbrev pub down_number : Option Siting → ℕ
down_number None = 0
down_number (Some Centre) = 2
down_number (Some Left) = 2
down_number (Some TopLeft) = 1

-- the siting of a pair of them that has a name
abbrev pub siting_named : ℕ → ℕ → Option Siting
siting_named across down =
    if across == 2 && down == 2 then Some Centre
    else if across == 1 && down == 2 then Some Left
    else if across == 1 && down == 1 then Some TopLeft
    else None

-- what the choice says, or else the text
abbrev pub range_chosen : RangeChoice → Option Range → Option Range
range_chosen range_choice.Auto said = said
range_chosen range_choice.Limited said = Some Limited
range_chosen range_choice.Full said = Some Full

abbrev pub siting_chosen : SitingChoice → Option Siting → Option Siting
siting_chosen siting_choice.Auto said = said
siting_chosen siting_choice.Left said = Some Left
siting_chosen siting_choice.Centre said = Some Centre
siting_chosen siting_choice.TopLeft said = Some TopLeft

-- what the choice and a head say of colours, in a file
abbrev pub file_colour : ColourChoice → VideoHead → Colour
file_colour choice h = record {
  matrix = choice.matrix;
  transfer = choice.transfer;
  primaries = choice.primaries;
  range = range_number (range_chosen choice.range h.range);
  siting_across = across_number (siting_chosen choice.siting h.siting);
  siting_down = down_number (siting_chosen choice.siting h.siting);
}

-- the siting of a text, which says one of 4:2:0 of 8 bits alone
abbrev pub siting_in : Configuration → Colour → Option Siting
siting_in c colour =
    if has_siting c.depth c.chroma_planes c.log2_h c.log2_v
    then siting_named colour.siting_across colour.siting_down
    else None

-- the range and the siting that a text of it says, if it can say one: not of PPM, and a siting only
-- of 4:2:0 of 8 bits
abbrev pub range_shown : RangeChoice → Bool → Option Range → Option Range
range_shown range_choice.Auto ppm said = said
range_shown range_choice.Limited ppm said = if ppm then said else Some Limited
range_shown range_choice.Full ppm said = if ppm then said else Some Full

abbrev pub siting_shown : SitingChoice → Bool → Option Siting → Option Siting
siting_shown siting_choice.Auto sited said = said
siting_shown siting_choice.Left sited said = if sited then Some Left else said
siting_shown siting_choice.Centre sited said = if sited then Some Centre else said
siting_shown siting_choice.TopLeft sited said = if sited then Some TopLeft else said

-- a video with what the choice says of colours, as a text of it says them
abbrev pub is_sited : Bool → SaidHead → Bool
is_sited ppm h =
    not ppm && has_siting h.depth h.head.chroma_planes h.head.log2_h h.head.log2_v

abbrev pub shown_head : ColourChoice → Bool → SaidHead → SaidHead
shown_head choice ppm h = record h {
  head = record h.head {
    siting = siting_shown choice.siting (is_sited ppm h) h.head.siting;
    range = range_shown choice.range ppm h.head.range;
  };
}

abbrev pub shown : Choice → Video → Video
shown choice v = record v { head = shown_head choice.colour v.ppm v.head }

-- numbers of 8 bits
pub record IsByteColour (choice : ColourChoice) : Type 0 where
  pub matrix : choice.matrix < 256
  pub transfer : choice.transfer < 256
  pub primaries : choice.primaries < 256

-- a choice that says nothing of them
abbrev pub no_colour : ColourChoice
no_colour = record {
  range = range_choice.Auto;
  siting = siting_choice.Auto;
  primaries = 2;
  transfer = 2;
  matrix = 2;
}

abbrev pub plain_choice : Choice → Choice
plain_choice choice = record choice { colour = no_colour }

-- a video without range and siting
abbrev pub plain_head : SaidHead → SaidHead
plain_head h = record h { head = record h.head { siting = None; range = None } }

abbrev pub plain : Video → Video
plain v = record v { head = plain_head v.head }

-- an AVI has no place for the range, nor for chroma that does not lie in the centre
abbrev pub loses_colour : Colour → Bool
loses_colour c = not (c.range == 0) || c.siting_across == 1
