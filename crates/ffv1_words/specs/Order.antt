-- What an order names of a command line, and when its files are in conflict.
use Rattle.std.specs.Prelude.{◌≡◌, ◌≤◌, ◌⊎◌, ◌||◌, ◌&&◌, ◌==◌, ℕ, Bool, true, false, not, codes}
use Rattle.std.specs.Prelude.{List, [], ◌∷◌, ◌+◌, ◌-◌, drop, find, length, map, nat_lt, Option}
use Rattle.std.specs.Prelude.{Some, None, is_some}
use Rattle.std.specs.Option.{option_and_then, option_map}
use Rattle.std.specs.Borrow.{Bor}
use Rattle.std.specs.Str.{bytes_eq, str_eq_ignore_ascii_case}
use Rattle.std.specs.Str.Parse.{IsNumeral, digits_value, without_leading_plus}
use Rattle.clap.specs.Words.{App, HasKind, Row, Text, all_of, fault_of, first_of, one_of}
use Rattle.clap.specs.Words.{subcommand_of}
use Rattle.clap.specs.Words.{kind_of, takes}
use Rattle.clap.specs.declared.error.Error.{Error}
use Rattle.clap.specs.declared.error.kind.ErrorKind.TheVariants as kind
use Rattle.clap.specs.declared.parser.matches.ValueSource.{ValueSource}
use Rattle.clap.specs.declared.parser.matches.ValueSource.TheVariants as source
use Rattle.ffv1_words.specs.declared.order.Choice.{Choice}
use Rattle.ffv1_words.specs.declared.order.CodecIdChoice.{CodecIdChoice}
use Rattle.ffv1_words.specs.declared.order.CodecIdChoice.TheVariants as codec_id
use Rattle.ffv1_words.specs.declared.order.CoderChoice.{CoderChoice}
use Rattle.ffv1_words.specs.declared.order.CoderChoice.TheVariants as coder
use Rattle.ffv1_words.specs.declared.order.ColourChoice.{ColourChoice}
use Rattle.ffv1_words.specs.declared.order.ContainerChoice.{ContainerChoice}
use Rattle.ffv1_words.specs.declared.order.ContainerChoice.TheVariants as container
use Rattle.ffv1_words.specs.declared.order.FrameRange.{FrameRange}
use Rattle.ffv1_words.specs.declared.order.Order.{Order}
use Rattle.ffv1_words.specs.declared.order.Order.TheVariants as order
use Rattle.ffv1_words.specs.declared.order.RangeChoice.{RangeChoice}
use Rattle.ffv1_words.specs.declared.order.RangeChoice.TheVariants as range
use Rattle.ffv1_words.specs.declared.order.SitingChoice.{SitingChoice}
use Rattle.ffv1_words.specs.declared.order.SitingChoice.TheVariants as siting

-- ---- what the rows of a subcommand name

abbrev pub NamesFile : List Row → Text → Text → Type 0
NamesFile rows id path = first_of id rows ≡ Some path

abbrev pub NamesFiles : List Row → Text → List Text → Type 0
NamesFiles rows id paths = all_of id rows ≡ Some paths

-- the path of an option, if the words give it
abbrev pub NamesList : List Row → Text → Option (Bor Text) → Type 0
NamesList rows id list = option_map (λ t. t.now) list ≡ first_of id rows

-- these references are what an argument has, or it has none
abbrev pub ArePaths : Option (Bor (List (Bor Text))) → Option (List Text) → Type 0
ArePaths paths found = option_map (λ p. map (λ i. i.now) p.now) paths ≡ found

-- the option's text is a decimal numeral of n, and n is in its range
abbrev pub NamesNumber : List Row → Text → ℕ → ℕ → ℕ → Type 0
NamesNumber rows id low high n =
    (t : Text) × (one_of id rows ≡ Some t) × IsNumeral 10 (without_leading_plus t)
    × (digits_value 10 (without_leading_plus t) ≡ n) × (low ≤ n) × (n ≤ high)

-- the number of an option without a default, if the words give it
abbrev pub NamesCount : List Row → Text → ℕ → ℕ → Option ℕ → Type 0
NamesCount rows id low high None = first_of id rows ≡ None
NamesCount rows id low high (Some n) = NamesNumber rows id low high n

-- which frames of a file
pub record NamesRange (rows : List Row) (r : FrameRange) : Type 0 where
  pub first : NamesNumber rows (codes "from") 0 4294967295 r.first
  pub count : NamesCount rows (codes "frames") 1 4294967295 r.count

abbrev pub flag_word : Bool → Text
flag_word false = codes "false"
flag_word true = codes "true"

abbrev pub NamesFlag : List Row → Text → Bool → Type 0
NamesFlag rows id flag = first_of id rows ≡ Some (flag_word flag)

abbrev pub coder_number : CoderChoice → ℕ
coder_number coder.Standard = 1
coder_number coder.Carried = 2

abbrev pub bit_number : Bool → ℕ
bit_number false = 0
bit_number true = 1

abbrev pub contexts_word : Bool → Text
contexts_word false = codes "small"
contexts_word true = codes "large"

abbrev pub container_word : ContainerChoice → Text
container_word container.Auto = codes "auto"
container_word container.Avi = codes "avi"
container_word container.Matroska = codes "mkv"

abbrev pub codec_id_word : CodecIdChoice → Text
codec_id_word codec_id.Native = codes "native"
codec_id_word codec_id.Vfw = codes "vfw"

abbrev pub range_word : RangeChoice → Text
range_word range.Auto = codes "auto"
range_word range.Limited = codes "limited"
range_word range.Full = codes "full"

abbrev pub siting_word : SitingChoice → Text
siting_word siting.Auto = codes "auto"
siting_word siting.Left = codes "left"
siting_word siting.Centre = codes "centre"
siting_word siting.TopLeft = codes "topleft"

-- what is said of colours, in the numbers of ITU-T H.273
pub record NamesColour (rows : List Row) (c : ColourChoice) : Type 0 where
  pub range : first_of (codes "range") rows ≡ Some (range_word c.range)
  pub siting : first_of (codes "siting") rows ≡ Some (siting_word c.siting)
  pub primaries : NamesNumber rows (codes "primaries") 0 255 c.primaries
  pub transfer : NamesNumber rows (codes "transfer") 0 255 c.transfer
  pub matrix : NamesNumber rows (codes "matrix") 0 255 c.matrix

abbrev pub is_of_words : Option ValueSource → Bool
is_of_words None = false
is_of_words (Some source.DefaultValue) = false
is_of_words (Some source.CommandLine) = true

-- whether the words give an option, and not its default alone
abbrev pub is_given : List Row → Text → Bool
is_given rows id =
    is_of_words (option_and_then (λ r. r.source) (find (λ r. bytes_eq r.id id) rows))

-- whether they give neither columns nor rows of slices
abbrev pub names_no_grid : List Row → Bool
names_no_grid rows = not (is_given rows (codes "columns")) && not (is_given rows (codes "rows"))

-- whether they give the rate of frames or its scale
abbrev pub names_rate : List Row → Bool
names_rate rows = is_given rows (codes "rate") || is_given rows (codes "scale")

pub record NamesChoice (rows : List Row) (c : Choice) : Type 0 where
  pub coder : NamesNumber rows (codes "coder") 1 2 (coder_number c.coder)
  pub contexts : first_of (codes "contexts") rows ≡ Some (contexts_word c.large)
  pub columns : NamesNumber rows (codes "columns") 1 32 c.columns
  pub slice_rows : NamesNumber rows (codes "rows") 1 32 c.rows
  pub default_grid : c.default_grid ≡ names_no_grid rows
  pub ec : NamesNumber rows (codes "ec") 0 1 (bit_number c.ec)
  pub rate : NamesNumber rows (codes "rate") 1 4294967295 c.rate
  pub scale : NamesNumber rows (codes "scale") 1 4294967295 c.scale
  pub verify : NamesFlag rows (codes "verify") c.verify
  pub codec_id : first_of (codes "codec-id") rows ≡ Some (codec_id_word c.codec_id)
  pub codec_id_given : c.codec_id_given ≡ is_given rows (codes "codec-id")
  pub rate_given : c.rate_given ≡ names_rate rows
  pub colour : NamesColour rows c.colour

-- ---- what a line names

-- the order is what the line's subcommand and its rows name
abbrev pub Names : Order → Option (Text × List Row) → Type 0
Names o None = ⊥
Names (order.Pack i w c holder no_clobber progress) (Some p) = (p.0 ≡ codes "pack")
    × NamesFile p.1 (codes "IN") i.now × NamesFile p.1 (codes "OUT") w.now × NamesChoice p.1 c
    × (first_of (codes "container") p.1 ≡ Some (container_word holder))
    × NamesFlag p.1 (codes "no-clobber") no_clobber × NamesFlag p.1 (codes "progress") progress
Names (order.Unpack i w no_clobber progress range all noted) (Some p) = (p.0 ≡ codes "unpack")
    × NamesFile p.1 (codes "IN") i.now × NamesFile p.1 (codes "OUT") w.now
    × NamesFlag p.1 (codes "no-clobber") no_clobber × NamesFlag p.1 (codes "progress") progress
    × NamesRange p.1 range × NamesFlag p.1 (codes "all") all
    × NamesFlag p.1 (codes "notes-as-faults") noted
Names (order.Check is all place quiet json progress against range noted) (Some p) =
    (p.0 ≡ codes "check") × NamesFiles p.1 (codes "IN") (map (λ i. i.now) is.now)
    × NamesFlag p.1 (codes "all") all × NamesFlag p.1 (codes "place") place
    × NamesFlag p.1 (codes "quiet") quiet × NamesFlag p.1 (codes "json") json
    × NamesFlag p.1 (codes "progress") progress × NamesList p.1 (codes "against") against
    × NamesRange p.1 range × NamesFlag p.1 (codes "notes-as-faults") noted
Names (order.Show is cost) (Some p) = (p.0 ≡ codes "show")
    × NamesFiles p.1 (codes "IN") (map (λ i. i.now) is.now) × NamesFlag p.1 (codes "cost") cost
Names (order.Info is count json) (Some p) = (p.0 ≡ codes "info")
    × NamesFiles p.1 (codes "IN") (map (λ i. i.now) is.now)
    × NamesFlag p.1 (codes "count") count × NamesFlag p.1 (codes "json") json
Names (order.FrameMd5 is range noted) (Some p) = (p.0 ≡ codes "framemd5")
    × NamesFiles p.1 (codes "IN") (map (λ i. i.now) is.now) × NamesRange p.1 range
    × NamesFlag p.1 (codes "notes-as-faults") noted
Names (order.Trial i) (Some p) = (p.0 ≡ codes "trial") × NamesFile p.1 (codes "IN") i.now

-- no order is
abbrev pub NamesNone : Option (Text × List Row) → Type 0
NamesNone line = (o : Order) → Names o line → ⊥

-- ---- files in conflict, and what an output lacks

abbrev pub is_standard_output : Text → Bool
is_standard_output path = bytes_eq path (codes "/dev/stdout")
    || (bytes_eq path (codes "/dev/fd/1") || bytes_eq path (codes "/proc/self/fd/1"))

-- a hyphen alone: standard input as IN, standard output as OUT
abbrev pub is_hyphen : Text → Bool
is_hyphen path = bytes_eq path (codes "-")

-- a name ends so, in letters of either case
abbrev pub has_ending : Text → Text → Bool
has_ending path end = str_eq_ignore_ascii_case (drop (length path - length end) path) end

-- the names of Matroska's files (RFC 9559, 27.3): of video, of sound, of subtitles, of 3D video
abbrev pub is_matroska_name : Text → Bool
is_matroska_name path = has_ending path (codes ".mkv") || (has_ending path (codes ".mka")
    || (has_ending path (codes ".mks") || has_ending path (codes ".mk3d")))

-- the names of files that pack does not write: QuickTime, MP4, MXF, YUV4MPEG2 and PPM
abbrev pub is_another_name : Text → Bool
is_another_name path = has_ending path (codes ".mov") || (has_ending path (codes ".mp4")
    || (has_ending path (codes ".mxf") || (has_ending path (codes ".y4m")
    || has_ending path (codes ".ppm"))))

-- an output whose name says that it is such a file, unless the container is chosen
abbrev pub is_misnamed : ContainerChoice → Text → Bool
is_misnamed container.Auto path = is_another_name path
is_misnamed container.Avi path = false
is_misnamed container.Matroska path = false

-- what holds the frames of an output of this name
abbrev pub is_matroska : ContainerChoice → Text → Bool
is_matroska container.Auto path = is_matroska_name path
is_matroska container.Avi path = false
is_matroska container.Matroska path = true

-- the line gives an ID of the codec, and what holds the frames of this output has none
abbrev pub lacks_codec_id : Choice → ContainerChoice → Text → Bool
lacks_codec_id c holder path = c.codec_id_given && not (is_matroska holder path)

abbrev pub is_auto_range : RangeChoice → Bool
is_auto_range range.Auto = true
is_auto_range range.Limited = false
is_auto_range range.Full = false

abbrev pub is_auto_siting : SitingChoice → Bool
is_auto_siting siting.Auto = true
is_auto_siting siting.Left = false
is_auto_siting siting.Centre = false
is_auto_siting siting.TopLeft = false

-- the line says something of colours, by ITU-T H.273 with another number than 2
abbrev pub says_colour : ColourChoice → Bool
says_colour c = not (is_auto_range c.range) || (not (is_auto_siting c.siting)
    || (not (c.primaries == 2) || (not (c.transfer == 2) || not (c.matrix == 2))))

-- the line says something of colours, and what holds the frames of this output has no place for it
abbrev pub lacks_colour : Choice → ContainerChoice → Text → Bool
lacks_colour c holder path = says_colour c.colour && not (is_matroska holder path)

-- what is written would be read, or stand among what is printed; with a hyphen for both nothing is
-- read that is written
abbrev pub is_conflict : Text → Text → Bool
is_conflict input output =
    (bytes_eq input output && not (is_hyphen output)) || is_standard_output output

-- how many of these are standard input
abbrev pub hyphens : List Text → ℕ
hyphens [] = 0
hyphens (path ∷ paths) = bit_number (is_hyphen path) + hyphens paths

-- standard input is read once
abbrev pub are_in_conflict : List Text → Bool
are_in_conflict paths = nat_lt 1 (hyphens paths)

-- a list of MD5s is of one file, which ends at its first fault, and no place in a frame is told;
-- standard input is read once
abbrev pub opposes_list : Text → Bool → Bool → List Text → Bool
opposes_list list all place paths =
    (all || place) || (not (length paths == 1) || (is_hyphen list && nat_lt 0 (hyphens paths)))

abbrev pub is_list_in_conflict : Option (Bor Text) → Bool → Bool → List Text → Bool
is_list_in_conflict None all place paths = false
is_list_in_conflict (Some list) all place paths = opposes_list list.now all place paths

-- it leaves out frames
abbrev pub leaves_out : FrameRange → Bool
leaves_out r = not (r.first == 0) || is_some r.count

-- some frames are of one file, and not compared with a list
abbrev pub is_range_in_conflict : FrameRange → Option (Bor Text) → List Text → Bool
is_range_in_conflict r against paths =
    leaves_out r && (is_some against || not (length paths == 1))

abbrev pub is_in_conflict : Order → Bool
is_in_conflict (order.Pack i w c holder no_clobber progress) =
    is_conflict i.now w.now || (is_misnamed holder w.now
    || (lacks_codec_id c holder w.now || lacks_colour c holder w.now))
is_in_conflict (order.Unpack i w no_clobber progress range all noted) =
    is_conflict i.now w.now || (all && leaves_out range)
is_in_conflict (order.Check is all place quiet json progress against range noted) =
    are_in_conflict (map (λ i. i.now) is.now)
    || (is_range_in_conflict range against (map (λ i. i.now) is.now)
    || is_list_in_conflict against all place (map (λ i. i.now) is.now))
is_in_conflict (order.Show is cost) = are_in_conflict (map (λ i. i.now) is.now)
is_in_conflict (order.Info is count json) = are_in_conflict (map (λ i. i.now) is.now)
is_in_conflict (order.FrameMd5 is range noted) = are_in_conflict (map (λ i. i.now) is.now)
    || is_range_in_conflict range None (map (λ i. i.now) is.now)
is_in_conflict (order.Trial i) = false

-- ---- what is answered to the words of a line

-- the order is what the words name, and its files are not in conflict
abbrev pub IsOrder : App → List Text → Order → Type 0
IsOrder line words o = Names o (subcommand_of line words) × (is_in_conflict o ≡ false)

-- the error says that the order which the words name is in conflict
abbrev pub TellsConflict : App → List Text → Error → Type 0
TellsConflict line words e = (kind_of e ≡ kind.ArgumentConflict)
    × (o : Order) × Names o (subcommand_of line words) × (is_in_conflict o ≡ true)

-- the error says that the words name no order
abbrev pub TellsNone : App → List Text → Error → Type 0
TellsNone line words e = (kind_of e ≡ kind.InvalidValue) × NamesNone (subcommand_of line words)

-- why a line is refused: memory was, or it is of a kind that clap's meaning of the line gives; or
-- clap refuses no such line, and it names no order, or one in conflict
abbrev pub IsRefused : App → List Text → Error → Type 0
IsRefused line words e = HasKind (fault_of line words) e
    ⊎ ((fault_of line words ≡ []) × (TellsNone line words e ⊎ TellsConflict line words e))

-- a line that clap takes fails for want of memory, and if its order is in conflict
abbrev pub IsRefusedIfTaken : App → List Text → Error → Type 0
IsRefusedIfTaken line words e = takes line words ≡ true
    → (kind_of e ≡ kind.OutOfMemory) ⊎ TellsConflict line words e
