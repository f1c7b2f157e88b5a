-- The header line of YUV4MPEG2, as MJPEG Tools write it (yuv4mpeg(5)): which head a text begins
-- with, or the first fault from the left.
use Rattle.std.specs.Prelude.{◌≡◌, ℕ, ◌+◌, ◌<◌, ◌^◌, ◌==◌, ◌&&◌, Bool, true, false}
use Rattle.std.specs.Prelude.{if◌then◌else◌, nat_eq, nat_lt, nat_le, List, [], ◌∷◌, length, take}
use Rattle.std.specs.Prelude.{drop, codes, decimal, Option, Some, None, Result, Ok, Err}
use Rattle.std.specs.Borrow.{Bor}
use Rattle.std.specs.List.{position}
use lib.Pointwise.{pointwise}
use Rattle.std.specs.Option.{option_and_then}
use Rattle.std.specs.Str.Parse.{digits_value}
use Rattle.ffv1_y4m.specs.VideoHead.{has_depth_name}
use Rattle.ffv1_y4m.specs.Sequence.{◌>>=◌, Reading, ◌then◌, judge}
use Rattle.ffv1_y4m.specs.declared.head.DeepHead.{DeepHead}
use Rattle.ffv1_y4m.specs.declared.tags.Chroma.{Chroma}
use Rattle.ffv1_y4m.specs.declared.tags.Tags.{Tags}
use Rattle.ffv1_y4m.specs.declared.head.Range.{Range}
use Rattle.ffv1_y4m.specs.declared.head.Range.TheVariants as range
use Rattle.ffv1_y4m.specs.declared.head.Siting.{Siting}
use Rattle.ffv1_y4m.specs.declared.head.Siting.TheVariants as siting
use Rattle.ffv1_y4m.specs.declared.fault.Fault.{Fault}
use Rattle.ffv1_y4m.specs.declared.fault.Fault.TheVariants as fault

-- what comes before and after the first of these bytes, if there is one
abbrev pub IsSplitOnce : ℕ → List ℕ → Option (Bor (List ℕ) × Bor (List ℕ)) → Type 0
IsSplitOnce byte text None = position (λ c. c == byte) text ≡ None
IsSplitOnce byte text (Some p) =
    (at : ℕ) × (position (λ c. c == byte) text ≡ Some at) × (p.0.now ≡ take at text)
    × (p.1.now ≡ drop (at + 1) text) × (at < length text)

-- the text is this name
abbrev pub is_text : List ℕ → List ℕ → Bool
is_text text name = pointwise nat_eq text name

-- the number below 2 ^ 32 whose one decimal spelling the text is
unfoldable pub number_of : List ℕ → Option ℕ
number_of text =
    if nat_lt (digits_value 10 text) (2 ^ 32) && pointwise nat_eq text
    (decimal (digits_value 10 text))
    then Some (digits_value 10 text) else None

-- a number within these bounds
abbrev pub within : ℕ → ℕ → ℕ → Option ℕ
within least most n = if nat_le least n && nat_le n most then Some n else None

-- a width or a height, from 1 to 8192
unfoldable pub size_of : List ℕ → Option ℕ
size_of value = option_and_then (within 1 8192) (number_of value)

-- a number of at most so much
unfoldable pub capped_of : ℕ → List ℕ → Option ℕ
capped_of most text = option_and_then (within 0 most) (number_of text)

-- two numbers, both zero or neither
abbrev pub pair_of : ℕ → ℕ → Option (ℕ × ℕ)
pair_of n d =
    if n == 0 then (if d == 0 then Some (n, d) else None) else
    (if d == 0 then None else Some (n, d))

-- two numbers of at most so much, in two texts; both zero or neither
abbrev pub both_of : Option ℕ → Option ℕ → Option (ℕ × ℕ)
both_of None second = None
both_of (Some n) None = None
both_of (Some n) (Some d) = pair_of n d

-- the texts before and after a colon
abbrev pub parted_of : ℕ → List ℕ → Option ℕ → Option (ℕ × ℕ)
parted_of most value None = None
parted_of most value (Some colon) =
    both_of (capped_of most (take colon value)) (capped_of most (drop (colon + 1) value))

-- two numbers of at most so much, joined by a colon; both zero or neither
abbrev pub ratio_of : ℕ → List ℕ → Option (ℕ × ℕ)
ratio_of most value = parted_of most value (position (λ c. c == 58) value)

-- chroma planes of these sizes, of 8 bits
abbrev pub chroma_planes : ℕ → ℕ → Chroma
chroma_planes log2_h log2_v =
    record {
      planes = true;
      log2_h = log2_h;
      log2_v = log2_v;
      extra = false;
      depth = 8;
      siting = None;
    }

-- 4:2:0 of 8 bits; the siting is said if depths above 8 are read
abbrev pub sited_planes : Bool → Siting → Chroma
sited_planes deep s =
    if deep then record (chroma_planes 1 1) { siting = Some s } else chroma_planes 1 1

-- no chroma planes, of 8 bits
abbrev pub no_chroma : Chroma
no_chroma =
    record { planes = false; log2_h = 0; log2_v = 0; extra = false; depth = 8; siting = None }

-- the depth above 8 of a text
abbrev pub depth_of : List ℕ → Option ℕ
depth_of text =
    if is_text text (codes "9") then Some 9
    else if is_text text (codes "10") then Some 10
    else if is_text text (codes "12") then Some 12
    else if is_text text (codes "14") then Some 14
    else if is_text text (codes "16") then Some 16
    else None

-- chroma of a depth that has a name beside it
abbrev pub at_depth : Chroma → Option ℕ → Option Chroma
at_depth c None = None
at_depth c (Some depth) =
    if has_depth_name c.planes depth then Some (record c { depth = depth }) else None

-- the chroma of a name of more than 8 bits, by what comes before the depth in it
abbrev pub deep_named : List ℕ → Option ℕ → Option Chroma
deep_named name depth =
    if is_text name (codes "420p") then at_depth (chroma_planes 1 1) depth
    else if is_text name (codes "422p") then at_depth (chroma_planes 1 0) depth
    else if is_text name (codes "444p") then at_depth (chroma_planes 0 0) depth
    else if is_text name (codes "mono") then at_depth no_chroma depth
    else None

-- the chroma of a name of more than 8 bits: four bytes and the depth
unfoldable pub deep_chroma_of : List ℕ → Option Chroma
deep_chroma_of value = deep_named (take 4 value) (depth_of (drop 4 value))

-- the chroma of the names for no chroma, for a plane of transparency, and for more than 8 bits
abbrev pub other_chroma_of : List ℕ → Option Chroma
other_chroma_of value =
    if is_text value (codes "444alpha") then Some
    (record { planes = true; log2_h = 0; log2_v = 0; extra = true; depth = 8; siting = None })
    else if is_text value (codes "mono") then Some no_chroma
    else deep_chroma_of value

-- the chroma of a name that says no siting
abbrev pub unsited_named : List ℕ → Option Chroma
unsited_named value =
    if is_text value (codes "422") then Some (chroma_planes 1 0)
    else if is_text value (codes "444") then Some (chroma_planes 0 0)
    else if is_text value (codes "411") then Some (chroma_planes 2 0)
    else other_chroma_of value

-- the chroma of the name `420`, which is another one for `420jpeg` if depths above 8 are read
abbrev pub plain_named : Bool → Option Chroma
plain_named deep = if deep then Some (sited_planes true siting.Centre) else None

-- the chroma of a name, by whether depths above 8 are read
unfoldable pub chroma_named : Bool → List ℕ → Option Chroma
chroma_named deep value =
    if is_text value (codes "420jpeg") then Some (sited_planes deep siting.Centre)
    else if is_text value (codes "420mpeg2") then Some (sited_planes deep siting.Left)
    else if is_text value (codes "420paldv") then Some (sited_planes deep siting.TopLeft)
    else if is_text value (codes "420") then plain_named deep
    else unsited_named value

-- chroma of at most this depth
abbrev pub up_to : ℕ → Chroma → Option Chroma
up_to most c = if nat_le c.depth most then Some c else None

-- the chroma of a name, if depths up to this one are read
abbrev pub chroma_of : ℕ → List ℕ → Option Chroma
chroma_of most value = option_and_then (up_to most) (chroma_named (nat_lt 8 most) value)

-- the range that the value of a tag X says, if depths above 8 are read
abbrev pub range_of : Bool → List ℕ → Option Range
range_of deep value =
    if deep
    then (if is_text value (codes "COLORRANGE=FULL") then Some range.Full
    else if is_text value (codes "COLORRANGE=LIMITED") then Some range.Limited
    else None)
    else None

-- the structure of a picture: progressive, top first, bottom first, unknown; mixed is not supported
unfoldable pub structure_of : List ℕ → Result ℕ Fault
structure_of value =
    if is_text value (codes "p") then Ok 3
    else if is_text value (codes "t") then Ok 1
    else if is_text value (codes "b") then Ok 2
    else if is_text value (codes "?") then Ok 0
    else if is_text value (codes "m") then Err fault.Unsupported
    else Err fault.Tag

-- nothing said yet
abbrev pub no_tags : Tags
no_tags = record {
  width = None;
  height = None;
  rate = None;
  structure = None;
  aspect = None;
  chroma = None;
  range = None;
}

-- a value for the first time, if it is one; that it is the second time comes first
abbrev pub first_value : {X Y : Type 0} → Option X → Option Y → Fault → Result Y Fault
first_value (Some old) new refusal = Err fault.Tag
first_value None None refusal = Err refusal
first_value None (Some x) refusal = Ok x

-- the same of a value that names its own fault
abbrev pub first_answer : {X Y : Type 0} → Option X → Result Y Fault → Result Y Fault
first_answer (Some old) new = Err fault.Tag
first_answer None new = new

-- the range after one more tag X, which says one or none; it is said once
abbrev pub next_range : Option Range → Option Range → Result (Option Range) Fault
next_range old None = Ok old
next_range None (Some new) = Ok (Some new)
next_range (Some old) (Some new) = Err fault.Tag

-- the tags with one more, by its letter: W H F I A C X
unfoldable pub tagged : ℕ → Tags → ℕ → List ℕ → Result Tags Fault
tagged most t letter value =
    if letter == 87 then
    (first_value t.width (size_of value) fault.Tag >>= λ n. Ok (record t { width = Some n }))
    else if letter == 72 then
    (first_value t.height (size_of value) fault.Tag >>= λ n. Ok (record t { height = Some n }))
    else if letter == 70 then
    (first_value t.rate (ratio_of 4294967295 value) fault.Tag >>= λ r. Ok
    (record t { rate = Some r }))
    else if letter == 73 then
    (first_answer t.structure (structure_of value) >>= λ s. Ok
    (record t { structure = Some s }))
    else if letter == 65 then
    (first_value t.aspect (ratio_of 65535 value) fault.Tag >>= λ r. Ok
    (record t { aspect = Some r }))
    else if letter == 67 then
    (first_value t.chroma (chroma_of most value) fault.Unsupported >>= λ c. Ok
    (record t { chroma = Some c }))
    else if letter == 88 then
    (next_range t.range (range_of (nat_lt 8 most) value) >>= λ r. Ok (record t { range = r }))
    else Err fault.Tag

-- one word of the line: a letter and its value
abbrev pub judged : ℕ → Tags → List ℕ → Result Tags Fault
judged most t [] = Err fault.Tag
judged most t (letter ∷ value) = tagged most t letter value

-- the words of a line, between single spaces
abbrev pub onto_first : ℕ → List (List ℕ) → List (List ℕ)
onto_first c [] = (c ∷ []) ∷ []
onto_first c (word ∷ words) = (c ∷ word) ∷ words

abbrev pub words_of : List ℕ → List (List ℕ)
words_of [] = [] ∷ []
words_of (c ∷ cs) = if c == 32 then [] ∷ words_of cs else onto_first c (words_of cs)

-- all words, from left to right
abbrev pub all_judged : ℕ → Tags → List (List ℕ) → Result Tags Fault
all_judged most t [] = Ok t
all_judged most t (word ∷ words) = judged most t word >>= λ u. all_judged most u words

-- a value, or what stands in its place
abbrev pub or_else : {X : Type 0} → Option X → X → X
or_else (Some x) d = x
or_else None d = d

-- the head that the tags give, once there are both sizes; without them no rate, an unknown
-- structure and aspect, and 4:2:0 of 8 bits
abbrev pub head_from : ℕ × ℕ → ℕ × ℕ → ℕ → ℕ × ℕ → Chroma → Option Range → DeepHead
head_from sizes rate structure aspect chroma range = record {
  head = record {
    width = sizes.0;
    height = sizes.1;
    rate = rate.0;
    scale = rate.1;
    structure = structure;
    sar_num = aspect.0;
    sar_den = aspect.1;
    chroma_planes = chroma.planes;
    log2_h = chroma.log2_h;
    log2_v = chroma.log2_v;
    extra_plane = chroma.extra;
    siting = chroma.siting;
    range = range;
  };
  depth = chroma.depth;
}

-- a size that has to be there
abbrev pub present : Option ℕ → Result ℕ Fault
present None = Err fault.Tag
present (Some n) = Ok n

unfoldable pub head_of_tags : Tags → Result DeepHead Fault
head_of_tags t = do
  width ← present t.width
  height ← present t.height
  Ok (head_from (width, height) (or_else t.rate (0, 0)) (or_else t.structure 0)
      (or_else t.aspect (0, 0)) (or_else t.chroma (chroma_planes 1 1)) t.range)

-- the head and the depth of a header line, given without its line feed, if depths up to `most`
-- are read
unfoldable pub head_of_line : ℕ → List ℕ → Result DeepHead Fault
head_of_line most line =
    if is_text line (codes "YUV4MPEG2") then Err fault.Tag
    else if is_text (take 10 line) (codes "YUV4MPEG2 ") then
    (all_judged most no_tags (words_of (drop 10 line)) >>= head_of_tags)
    else Err fault.Header

-- where the line feed of a line stands, if it is among the first so many bytes
abbrev pub line_end : ℕ → List ℕ → Option ℕ
line_end most text = position (λ c. c == 10) (take most text)

-- a line, and what comes after its line feed; if it does not end in time, those bytes are left out
abbrev pub line_to : ℕ → List ℕ → Option ℕ → Result (List ℕ × List ℕ) (Fault × List ℕ)
line_to most text None = Err (fault.Header, drop most text)
line_to most text (Some end) = Ok (take end text, drop (end + 1) text)

-- a line of at most so many bytes, its line feed included
abbrev pub line_read : ℕ → Reading (List ℕ)
line_read most text = line_to most text (line_end most text)

-- a text's header: its line of at most 1024 bytes and the line feed, which is judged when it is
-- read
abbrev pub header_of : ℕ → Reading DeepHead
header_of most = line_read 1025 then λ line. judge (head_of_line most line)
