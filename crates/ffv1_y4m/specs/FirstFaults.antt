-- Where the first fault of a text of YUV4MPEG2 is: where the part begins that is not as the format
-- has it, and before which all are. Parts are the header's line, its tags, the line that begins a
-- picture, and planes.
use Rattle.std.specs.Prelude.{◌≡◌, ◌⊎◌, ℕ, suc, ◌+◌, ◌<◌, ◌≤◌, ◌==◌, ◌&&◌, ◌||◌, not, nat_lt}
use Rattle.std.specs.Prelude.{Bool, true, false, if◌then◌else◌, List, [], ◌∷◌, ◌++◌, length, codes}
use Rattle.std.specs.Prelude.{flat_map, Option, Some, None, Result, Ok, Err}
use Rattle.ffv1_samples.specs.Samples.{are_in_depth}
use Rattle.ffv1_y4m.specs.Header.{chroma_of, ratio_of, size_of, structure_of}
use Rattle.ffv1_y4m.specs.HeaderLine.{IsHeaderLine, Without, ranging, spaced, values_of}
use Rattle.ffv1_y4m.specs.Pictures.{frame_line, picture_text}
use Rattle.ffv1_y4m.specs.Text.{AllFit}
use Rattle.ffv1_y4m.specs.VideoHead.{plane_bytes}
use Rattle.ffv1_y4m.specs.declared.head.VideoHead.{VideoHead}
use Rattle.ffv1_y4m.specs.declared.fault.Fault.{Fault}
use Rattle.ffv1_y4m.specs.declared.fault.Fault.TheVariants as fault

-- this fault if there is no value
abbrev pub unless : {X : Type 0} → Option X → Fault → Option Fault
unless None f = Some f
unless (Some x) f = None

abbrev pub refusal_of : {X : Type 0} → Result X Fault → Option Fault
refusal_of (Ok x) = None
refusal_of (Err f) = Some f

abbrev pub is_there : {X : Type 0} → List X → Bool
is_there [] = false
is_there (x ∷ xs) = true

-- what is wrong with the value of a tag of this letter, W H F I A C X, if depths up to `most`
-- are read; X may have any
abbrev pub value_fault : ℕ → ℕ → List ℕ → Option Fault
value_fault most letter value =
    if letter == 87 then unless (size_of value) fault.Tag
    else if letter == 72 then unless (size_of value) fault.Tag
    else if letter == 70 then unless (ratio_of 4294967295 value) fault.Tag
    else if letter == 73 then refusal_of (structure_of value)
    else if letter == 65 then unless (ratio_of 65535 value) fault.Tag
    else if letter == 67 then unless (chroma_of most value) fault.Unsupported
    else if letter == 88 then None
    else Some fault.Tag

-- a tag X and one of these say a range
abbrev pub is_second_range : ℕ → List (List ℕ) → ℕ → List ℕ → Bool
is_second_range most before letter value =
    letter == 88
    && (is_there (ranging (nat_lt 8 most) (value ∷ []))
    && is_there (ranging (nat_lt 8 most) (values_of 88 before)))

-- what is wrong with a tag after these: it is empty, its letter is there for the second time and is
-- not X, it says a range for the second time, or its value
abbrev pub tag_fault : ℕ → List (List ℕ) → List ℕ → Option Fault
tag_fault most before [] = Some fault.Tag
tag_fault most before (letter ∷ value) =
    if is_second_range most before letter value
    || (not (letter == 88) && is_there (values_of letter before)) then Some fault.Tag
    else value_fault most letter value

-- the first fault of the tags that come after these, and where its tag begins, from the space on
-- that comes next; or W or H is missing at the end of the line
abbrev pub TagsFault : ℕ → List (List ℕ) → List (List ℕ) → Fault → ℕ → Type 0
TagsFault most before [] f n =
    ((is_there (values_of 87 before) && is_there (values_of 72 before)) ≡ false)
    × (f ≡ fault.Tag) × (n ≡ 0)
TagsFault most before (tag ∷ tags) f n =
    ((tag_fault most before tag ≡ Some f) × (n ≡ 1))
    ⊎ ((tag_fault most before tag ≡ None) × (m : ℕ)
    × TagsFault most (before ++ tag ∷ []) tags f m × (n ≡ suc (length tag) + m))

-- a text begins with a line of at most 1024 bytes
pub record HasLine (text line rest : List ℕ) : Type 0 where
  pub single : Without 10 line
  pub short : length line ≤ 1024
  pub whole : text ≡ line ++ 10 ∷ rest

-- no tag has a space
abbrev pub AreSpaceless : List (List ℕ) → Type 0
AreSpaceless [] = Unit {0}
AreSpaceless (tag ∷ tags) = Without 32 tag × AreSpaceless tags

-- a line is `YUV4MPEG2` and these tags, one space before each
pub record HasTags (line : List ℕ) (tags : List (List ℕ)) : Type 0 where
  pub spaceless : AreSpaceless tags
  pub spelled : line ≡ codes "YUV4MPEG2" ++ spaced tags

-- the first fault of a header of YUV4MPEG2: there is no header line; or one of its tags is not good
abbrev pub HeaderFault : ℕ → List ℕ → Fault → ℕ → Type 0
HeaderFault most text f n =
    (((line rest : List ℕ) (tags : List (List ℕ)) → HasLine text line rest → HasTags line tags → ⊥)
    × (f ≡ fault.Header) × (n ≡ 0))
    ⊎ ((line rest : List ℕ) × (tags : List (List ℕ)) × HasLine text line rest × HasTags line tags
    × (m : ℕ) × TagsFault most [] tags f m × (n ≡ 9 + m))

-- a line is begun, and then comes another byte; or the text ends inside it
abbrev pub FrameLineFault : List ℕ → List ℕ → Fault → Type 0
FrameLineFault line text f =
    (begun more : List ℕ) × (next : ℕ) × (line ≡ begun ++ next ∷ more)
    × (((c : ℕ) × (rest : List ℕ) × (text ≡ begun ++ c ∷ rest) × ((c == next) ≡ false)
    × (f ≡ fault.FrameLine))
    ⊎ ((text ≡ begun) × (f ≡ fault.FrameTruncated)))

-- a text begins with a plane of so many bytes, whose samples are all below 2 ^ depth, or not all
pub record HasPlane (depth size : ℕ) (small : Bool) (text plane rest : List ℕ) : Type 0 where
  pub long : length plane ≡ size
  pub judged : are_in_depth depth plane ≡ small
  pub whole : text ≡ plane ++ rest

-- the text ends inside a plane, or the plane has a sample that is too large
abbrev pub PlaneFault : ℕ → ℕ → List ℕ → Fault → Type 0
PlaneFault depth size text f =
    ((length text < size) × (f ≡ fault.FrameTruncated))
    ⊎ ((plane rest : List ℕ) × HasPlane depth size false text plane rest
    × (f ≡ fault.SampleTooLarge))

-- the first fault of planes of these sizes
abbrev pub PlanesFault : ℕ → List ℕ → List ℕ → Fault → ℕ → Type 0
PlanesFault depth [] text f n = ⊥
PlanesFault depth (size ∷ sizes) text f n =
    (PlaneFault depth size text f × (n ≡ 0))
    ⊎ ((plane rest : List ℕ) × HasPlane depth size true text plane rest × (m : ℕ)
    × PlanesFault depth sizes rest f m × (n ≡ size + m))

-- the first fault of a picture, whose line `FRAME` comes first; at the end of a text there is none
abbrev pub PictureFault : ℕ → VideoHead → List ℕ → Fault → ℕ → Type 0
PictureFault depth h text f n =
    ((is_there text ≡ true) × FrameLineFault frame_line text f × (n ≡ 0))
    ⊎ ((rest : List ℕ) × (text ≡ frame_line ++ rest) × (m : ℕ)
    × PlanesFault depth (plane_bytes depth h) rest f m × (n ≡ 6 + m))

-- a text of YUV4MPEG2 up to a picture: its header and pictures that fit it, of so many bytes
pub record ReachesPicture (most : ℕ) (text : List ℕ) (depth : ℕ) (h : VideoHead) (rest : List ℕ)
    (count : ℕ) : Type 0 where
  pub line : List ℕ
  pub pictures : List (List (List ℕ))
  pub begins : HasLine text line (flat_map picture_text pictures ++ rest)
  pub said : IsHeaderLine most line depth h
  pub small : depth ≤ most
  pub fit : AllFit depth h pictures
  pub counted : count ≡ suc (length line) + length (flat_map picture_text pictures)

-- the first fault of a text of YUV4MPEG2: of its header, or of a picture after good ones
abbrev pub TextFault : ℕ → List ℕ → Fault → ℕ → Type 0
TextFault most text f n =
    HeaderFault most text f n
    ⊎ ((depth : ℕ) × (h : VideoHead) × (rest : List ℕ) × (count : ℕ)
    × ReachesPicture most text depth h rest count × (m : ℕ) × PictureFault depth h rest f m
    × (n ≡ count + m))
