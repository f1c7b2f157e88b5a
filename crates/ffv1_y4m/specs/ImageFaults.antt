-- Where the first fault of a text of PPM is. Parts are what a header has one after the other, and
-- the samples of an image.
use Rattle.std.specs.Prelude.{◌≡◌, ◌⊎◌, ℕ, ◌+◌, ◌-◌, ◌*◌, ◌^◌, ◌<◌, ◌≤◌, ◌==◌, ◌&&◌, Bool, true}
use Rattle.std.specs.Prelude.{false, List, [], ◌∷◌, ◌++◌, length, codes, decimal}
use Rattle.std.specs.Prelude.{nat_le}
use Rattle.ffv1_y4m.specs.FirstFaults.{is_there}
use Rattle.ffv1_y4m.specs.Images.{AreColours, IsHeader, samples_text}
use Rattle.ffv1_y4m.specs.Ppm.{all_in_depth, bytes_for, image_bytes, parted}
use Rattle.ffv1_y4m.specs.Spaces.{blank_room, is_blank, is_white}
use Rattle.ffv1_y4m.specs.VideoHead.{AreInDepth, IsNamed, IsSized, colour_head}
use Rattle.ffv1_y4m.specs.declared.head.DeepHead.{DeepHead}
use Rattle.ffv1_y4m.specs.declared.fault.Fault.{Fault}
use Rattle.ffv1_y4m.specs.declared.fault.Fault.TheVariants as fault

-- a greatest sample, 2 ^ depth - 1 of a depth up to `most`
pub record IsGreatest (most depth : ℕ) : Type 0 where
  pub named : (width height : ℕ) → IsNamed depth (colour_head width height)
  pub small : depth ≤ most

-- `P6`, two sizes and the greatest sample, each on a line
abbrev pub IsMagicLine : List ℕ → Type 0
IsMagicLine part = part ≡ codes "P6\n"

abbrev pub IsSizesLine : List ℕ → Type 0
IsSizesLine part =
    (width height : ℕ) × IsSized (colour_head width height)
    × (part ≡ (decimal width ++ 32 ∷ decimal height) ++ 10 ∷ [])

abbrev pub IsGreatestLine : ℕ → List ℕ → Type 0
IsGreatestLine most part =
    (depth : ℕ) × IsGreatest most depth × (part ≡ decimal (2 ^ depth - 1) ++ 10 ∷ [])

-- `P6`, two sizes and the greatest sample, each with a byte of white space after it and, except for
-- `P6`, white space and comments before it
abbrev pub IsMagicWord : List ℕ → Type 0
IsMagicWord part =
    (last : ℕ) × (is_white last ≡ true) × (part ≡ codes "P6" ++ last ∷ [])

pub record IsSpacedNumber (IsGood : ℕ → Type 0) (part : List ℕ) : Type 0 where
  pub gap : List ℕ
  pub number : ℕ
  pub last : ℕ
  pub blank : is_blank false gap ≡ true
  pub short : length gap < blank_room
  pub good : IsGood number
  pub white : is_white last ≡ true
  pub whole : part ≡ gap ++ (decimal number ++ last ∷ [])

abbrev pub IsSizeWord : List ℕ → Type 0
IsSizeWord = IsSpacedNumber (λ n. (1 ≤ n) × (n ≤ 8192))

abbrev pub IsGreatestWord : ℕ → List ℕ → Type 0
IsGreatestWord most =
    IsSpacedNumber (λ n. (depth : ℕ) × IsGreatest most depth × (n ≡ 2 ^ depth - 1))

-- what a header of an image has, one part after the other: lines if depths up to 8 are read
abbrev pub lined_parts : ℕ → List (List ℕ → Type 0)
lined_parts most = IsMagicLine ∷ IsSizesLine ∷ IsGreatestLine most ∷ []

abbrev pub spaced_parts : ℕ → List (List ℕ → Type 0)
spaced_parts most = IsMagicWord ∷ IsSizeWord ∷ IsSizeWord ∷ IsGreatestWord most ∷ []

-- the one or the other
abbrev pub parts_of : Bool → ℕ → List (List ℕ → Type 0)
parts_of true most = lined_parts most
parts_of false most = spaced_parts most

abbrev pub header_parts : ℕ → List (List ℕ → Type 0)
header_parts most = parts_of (nat_le most 8) most

-- the first of these parts that a text lacks, where it would begin
abbrev pub LacksPart : List (List ℕ → Type 0) → List ℕ → ℕ → Type 0
LacksPart [] text n = ⊥
LacksPart (IsPart ∷ parts) text n =
    (((part rest : List ℕ) → IsPart part → text ≡ part ++ rest → ⊥) × (n ≡ 0))
    ⊎ ((part rest : List ℕ) × IsPart part × (text ≡ part ++ rest) × (m : ℕ)
    × LacksPart parts rest m × (n ≡ length part + m))

-- the first fault of a header of an image
abbrev pub ImageHeaderFault : ℕ → List ℕ → Fault → ℕ → Type 0
ImageHeaderFault most text f n = LacksPart (header_parts most) text n × (f ≡ fault.Header)

-- the text ends inside the samples of an image of so many bytes a plane, or one is too large
abbrev pub SamplesFault : ℕ → ℕ → List ℕ → Fault → Type 0
SamplesFault depth size text f =
    ((length text < 3 * size) × (f ≡ fault.FrameTruncated))
    ⊎ ((samples rest : List ℕ) × (length samples ≡ 3 * size) × (text ≡ samples ++ rest)
    × (all_in_depth depth (parted depth samples) ≡ false) × (f ≡ fault.SampleTooLarge))

-- a text begins with this header of an image, of this depth and these sizes
pub record HasImageHeader (most : ℕ) (text : List ℕ) (depth width height : ℕ)
    (header rest : List ℕ) : Type 0 where
  pub sized : IsSized (colour_head width height)
  pub named : IsNamed depth (colour_head width height)
  pub small : depth ≤ most
  pub is : IsHeader most depth width height header
  pub whole : text ≡ header ++ rest

-- a later image has the sizes and the depth of the first one
abbrev pub has_format : DeepHead → ℕ → ℕ → ℕ → Bool
has_format said depth width height =
    said.head.width == width && (said.head.height == height && said.depth == depth)

-- the first fault of a later image: it has no header; the header says other sizes or another depth;
-- or one of its samples
abbrev pub ImageFault : ℕ → DeepHead → List ℕ → Fault → ℕ → Type 0
ImageFault most said text f n =
    ((is_there text ≡ true) × ImageHeaderFault most text f n)
    ⊎ ((depth width height : ℕ) × (header rest : List ℕ)
    × HasImageHeader most text depth width height header rest
    × (((has_format said depth width height ≡ false) × (f ≡ fault.FormatChanged) × (n ≡ 0))
    ⊎ ((has_format said depth width height ≡ true)
    × SamplesFault said.depth (image_bytes said) rest f × (n ≡ length header))))

-- the head and the depth of images of these sizes
abbrev pub format_of : ℕ → ℕ → ℕ → DeepHead
format_of depth width height = record { head = colour_head width height; depth = depth }

-- a text begins with these samples of an image, which has the size and the depth of its header
pub record HasSamples (depth width height : ℕ) (text : List ℕ) (image : List (List ℕ))
    (rest : List ℕ) : Type 0 where
  pub colours : AreColours (bytes_for depth (width * height)) image
  pub small : AreInDepth depth image
  pub whole : text ≡ samples_text depth image ++ rest

-- the first fault of a text of later images, after these, which are whole
abbrev pub LaterFault : ℕ → ℕ → ℕ → ℕ → List (List (List ℕ)) → List ℕ → Fault → ℕ → Type 0
LaterFault most depth width height [] text f n =
    ImageFault most (format_of depth width height) text f n
LaterFault most depth width height (image ∷ images) text f n =
    (header mid rest : List ℕ) × HasImageHeader most text depth width height header mid
    × HasSamples depth width height mid image rest × (m : ℕ)
    × LaterFault most depth width height images rest f m
    × (n ≡ length header + length (samples_text depth image) + m)

-- the first fault of a text of images: of its first header, of the samples after that, or of a
-- later image
abbrev pub ImagesFault : ℕ → List ℕ → Fault → ℕ → Type 0
ImagesFault most text f n =
    ImageHeaderFault most text f n
    ⊎ ((depth width height : ℕ) × (header mid : List ℕ)
    × HasImageHeader most text depth width height header mid
    × ((SamplesFault depth (bytes_for depth (width * height)) mid f × (n ≡ length header))
    ⊎ ((image : List (List ℕ)) × (images : List (List (List ℕ))) × (rest : List ℕ)
    × HasSamples depth width height mid image rest × (m : ℕ)
    × LaterFault most depth width height images rest f m
    × (n ≡ length header + length (samples_text depth image) + m))))
