-- Binary PPM (Netpbm's P6, ppm(5)) of 8 to 16 bits: images, each a header and its samples. If
-- depths up to 8 are read, the header is three lines; else it is as Netpbm writes it.
use Rattle.std.specs.Prelude.{◌≡◌, ℕ, zero, suc, ◌+◌, ◌-◌, ◌*◌, ◌%◌, ◌^◌, ◌==◌, ◌&&◌, Bool, true}
use Rattle.std.specs.Prelude.{false, if◌then◌else◌, nat_le, nat_lt, List, [], ◌∷◌, ◌++◌, take, drop}
use Rattle.std.specs.Prelude.{length, codes, decimal, Option, Some, None, Ok, Err}
use Rattle.std.specs.List.{position}
use Rattle.std.specs.Option.{option_and_then}
use Rattle.ffv1_samples.specs.Samples.{are_in_depth}
use Rattle.ffv1_y4m.specs.Header.{is_text, line_read, size_of, within}
use Rattle.ffv1_y4m.specs.Sequence.{Reading, ◌then◌, give, refuse, where_begun}
use Rattle.ffv1_y4m.specs.Spaces.{byte_read, spaced_word, word_read}
use Rattle.ffv1_y4m.specs.VideoHead.{colour_head}
use Rattle.ffv1_y4m.specs.declared.head.DeepHead.{DeepHead}
use Rattle.ffv1_y4m.specs.declared.fault.Fault.TheVariants as fault

-- two sizes
abbrev pub both_sizes : Option ℕ → Option ℕ → Option (ℕ × ℕ)
both_sizes None height = None
both_sizes (Some width) None = None
both_sizes (Some width) (Some height) = Some (width, height)

abbrev pub sizes_at : List ℕ → Option ℕ → Option (ℕ × ℕ)
sizes_at line None = None
sizes_at line (Some space) =
    both_sizes (size_of (take space line)) (size_of (drop (space + 1) line))

-- two sizes of 1 to 8192 and a space between them
abbrev pub sizes_of : List ℕ → Option (ℕ × ℕ)
sizes_of line = sizes_at line (position (λ c. c == 32) line)

-- the depth of which this is the greatest sample, 2 ^ depth - 1
abbrev pub maximum_depth : List ℕ → Option ℕ
maximum_depth text =
    if is_text text (codes "255") then Some 8
    else if is_text text (codes "511") then Some 9
    else if is_text text (codes "1023") then Some 10
    else if is_text text (codes "4095") then Some 12
    else if is_text text (codes "16383") then Some 14
    else if is_text text (codes "65535") then Some 16
    else None

-- how many bytes the line of the greatest sample may have, its line feed included, if depths up
-- to `most` are read
abbrev pub maximum_room : ℕ → ℕ
maximum_room most = if nat_le most 8 then 4 else 6

-- the line of the greatest sample: its depth, if it has one that is read
unfoldable pub depth_of_line : ℕ → List ℕ → Option ℕ
depth_of_line most line = option_and_then (within 8 most) (maximum_depth line)

abbrev pub maximum_read : ℕ → Reading (Option ℕ)
maximum_read most = line_read (maximum_room most) then λ line. give (depth_of_line most line)

abbrev pub sized_head : Option ℕ → Option (ℕ × ℕ) → Option DeepHead
sized_head None s = None
sized_head (Some depth) None = None
sized_head (Some depth) (Some s) = Some (record { head = colour_head s.0 s.1; depth = depth })

-- the head and the depth of the first two lines of a header and of the depth of the third
unfoldable pub image_head : List ℕ → List ℕ → Option ℕ → Option DeepHead
image_head magic sizes depth =
    if is_text magic (codes "P6") then sized_head depth (sizes_of sizes) else None

-- a head, or no header
abbrev pub some_head : Option DeepHead → Reading DeepHead
some_head None = refuse fault.Header
some_head (Some h) = give h

-- the header of an image: `P6`, the sizes, the greatest sample, each on a line; depths up to `most`
-- are read
abbrev pub lined_header : ℕ → Reading DeepHead
lined_header most =
    line_read 3 then λ magic. line_read 10 then λ sizes. maximum_read most then λ depth. some_head
    (image_head magic sizes depth)

-- whether the first word is `P6`
abbrev pub magic_read : Reading Bool
magic_read =
    (byte_read then λ p. word_read 2 (p ∷ [])) then λ word. give (is_text word (codes "P6"))

-- a size, after white space and comments
abbrev pub size_read : Reading (Option ℕ)
size_read = spaced_word 4 then λ word. give (size_of word)

-- the depth of the greatest sample, after white space and comments
abbrev pub greatest_read : ℕ → Reading (Option ℕ)
greatest_read most = spaced_word 5 then λ word. give (depth_of_line most word)

-- the head and the depth of a first word, which is `P6` or not, of two sizes and of a depth
abbrev pub spaced_head : Bool → Option ℕ → Option ℕ → Option ℕ → Option DeepHead
spaced_head magic width height depth =
    if magic then sized_head depth (both_sizes width height) else None

-- the header of an image: `P6`, the sizes, the greatest sample, with white space and comments
-- between them and one byte of white space at the end; depths up to `most` are read
abbrev pub spaced_header : ℕ → Reading DeepHead
spaced_header most =
    magic_read then λ magic. size_read then λ width. size_read then λ height. greatest_read most
    then λ depth. some_head (spaced_head magic width height depth)

-- the header of an image: three lines, or above a depth of 8 as Netpbm writes it; depths up to
-- `most` are read
unfoldable pub image_header : ℕ → Reading DeepHead
image_header most text = if nat_le most 8 then lined_header most text else spaced_header most text

-- each third element, after the first so many
abbrev pub each_third : {A : Type 0} → ℕ → List A → List A
each_third n [] = []
each_third zero (x ∷ xs) = x ∷ each_third 2 xs
each_third (suc n) (x ∷ xs) = each_third n xs

-- pairs of bytes; a last byte without another one is left out
abbrev pub pairs_of : List ℕ → List (ℕ × ℕ)
pairs_of [] = []
pairs_of (x ∷ []) = []
pairs_of (x ∷ y ∷ xs) = (x, y) ∷ pairs_of xs

-- the bytes of pairs
abbrev pub bytes_of_pairs : List (ℕ × ℕ) → List ℕ
bytes_of_pairs [] = []
bytes_of_pairs (p ∷ ps) = p.0 ∷ p.1 ∷ bytes_of_pairs ps

-- pairs the other way round
abbrev pub turned : List (ℕ × ℕ) → List (ℕ × ℕ)
turned [] = []
turned (p ∷ ps) = (p.1, p.0) ∷ turned ps

-- each third sample of bytes, after the first so many: at a depth of 8 a sample is one byte, else
-- two, of which the high one is the first in a text and the second in a plane
abbrev pub third_of : ℕ → ℕ → List ℕ → List ℕ
third_of depth n bytes =
    if depth == 8 then each_third n bytes
    else bytes_of_pairs (each_third n (turned (pairs_of bytes)))

-- the planes of red, green and blue of a text of samples that stand as red, green, blue
abbrev pub parted : ℕ → List ℕ → List (List ℕ)
parted depth bytes =
    third_of depth 0 bytes ∷ third_of depth 1 bytes ∷ third_of depth 2 bytes ∷ []

-- how many of so many bytes are half a sample
abbrev pub half_of : ℕ → ℕ → ℕ
half_of depth size = if depth == 8 then 0 else size % 2

-- the bytes of so many samples: at a depth of 8 one each, else two
abbrev pub bytes_for : ℕ → ℕ → ℕ
bytes_for depth count = if depth == 8 then count else 2 * count

-- each sample of these planes is below 2 ^ depth
abbrev pub all_in_depth : ℕ → List (List ℕ) → Bool
all_in_depth depth [] = true
all_in_depth depth (p ∷ ps) = are_in_depth depth p && all_in_depth depth ps

-- planes, with what comes after them; each sample is below 2 ^ depth
abbrev pub judged_planes : ℕ → List (List ℕ) → Reading (List (List ℕ))
judged_planes depth planes rest =
    if all_in_depth depth planes then Ok (planes, rest) else Err (fault.SampleTooLarge, rest)

-- the samples of an image, so many bytes a plane; each is below 2 ^ depth
abbrev pub colours_read : ℕ → ℕ → Reading (List (List ℕ))
colours_read depth size text =
    if nat_lt (length text) (3 * size) then Err (fault.FrameTruncated, [])
    else judged_planes depth (parted depth (take (3 * size) text)) (drop (3 * size) text)

-- a later image has the sizes and the depth of the first
abbrev pub same_format : DeepHead → DeepHead → Reading Bool
same_format said next =
    if said.head.width == next.head.width
    && (said.head.height == next.head.height && said.depth == next.depth) then give true
    else refuse fault.FormatChanged

-- whether a text has ended, or begins with the header of a later image
abbrev pub image_begun : ℕ → DeepHead → Reading Bool
image_begun most said [] = Ok (false, [])
image_begun most said (c ∷ cs) = (image_header most then same_format said) (c ∷ cs)

-- the bytes of a plane of an image
abbrev pub image_bytes : DeepHead → ℕ
image_bytes said = bytes_for said.depth (said.head.width * said.head.height)

-- the samples of the image that has begun, if one has
abbrev pub image_rest : DeepHead → Bool → Reading (Option (List (List ℕ)))
image_rest said = where_begun (colours_read said.depth (image_bytes said))

-- the next image of a text, or None at its end; of the first one the header was read before
abbrev pub image_read : ℕ → DeepHead → Bool → Reading (Option (List (List ℕ)))
image_read most said true = image_rest said true
image_read most said false = image_begun most said then image_rest said

-- where memory may be refused: before the samples of an image, of which the header was read
abbrev pub GrowsInImage : ℕ → DeepHead → Bool → List ℕ → Type 0
GrowsInImage most said true bytes = bytes ≡ []
GrowsInImage most said false bytes = image_begun most said bytes ≡ Ok (true, [])

-- the header of an image of these sizes and this depth
unfoldable pub image_header_text : ℕ → ℕ → ℕ → List ℕ
image_header_text depth width height =
    codes "P6\n" ++ decimal width ++ codes " " ++ decimal height ++ codes "\n"
    ++ decimal (2 ^ depth - 1) ++ codes "\n"

-- red, green and blue, one of each at a time
abbrev pub in_turn : {A : Type 0} → List A → List A → List A → List A
in_turn [] gs bs = []
in_turn (r ∷ rs) [] bs = []
in_turn (r ∷ rs) (g ∷ gs) [] = []
in_turn (r ∷ rs) (g ∷ gs) (b ∷ bs) = r ∷ g ∷ b ∷ in_turn rs gs bs

-- the text of planes of red, green and blue: a sample of each at a time
abbrev pub interleaved : ℕ → List ℕ → List ℕ → List ℕ → List ℕ
interleaved depth red green blue =
    if depth == 8 then in_turn red green blue
    else bytes_of_pairs (turned (in_turn (pairs_of red) (pairs_of green) (pairs_of blue)))
