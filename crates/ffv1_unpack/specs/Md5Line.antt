-- What a line of a list of MD5s says, as FFmpeg's framemd5 writes it.
use Rattle.std.specs.Prelude.{ℕ, zero, suc, ◌+◌, ◌^◌, ◌-◌, ◌==◌, ◌&&◌, Bool, true, false}
use Rattle.std.specs.Prelude.{if◌then◌else◌, nat_eq, nat_lt, is_some, List, [], length, take}
use Rattle.std.specs.Prelude.{drop, slice_index, codes, Option, Some, None}
use Rattle.std.specs.List.{list_all, position, prefix_len, suffix_len}
use Rattle.std.specs.Char.{is_ascii_whitespace, is_digit}
use Rattle.std.specs.Str.Parse.{digits_value}
use lib.Pointwise.{pointwise}
use Rattle.ffv1_unpack.specs.declared.md5_line.Md5Line.{Md5Line}
use Rattle.ffv1_unpack.specs.declared.md5_line.Md5Line.TheVariants as line

-- ---- words of a line

-- what stands before the first of these bytes, or all
abbrev pub before_by : List ℕ → Option ℕ → List ℕ
before_by text None = text
before_by text (Some at) = take at text

abbrev pub before : ℕ → List ℕ → List ℕ
before byte text = before_by text (position (λ c. c == byte) text)

-- what stands after it, or nothing
abbrev pub after_by : List ℕ → Option ℕ → List ℕ
after_by text None = []
after_by text (Some at) = drop (at + 1) text

abbrev pub after : ℕ → List ℕ → List ℕ
after byte text = after_by text (position (λ c. c == byte) text)

-- a text without white space at its beginning, and at its end
abbrev pub without_leading : List ℕ → List ℕ
without_leading text = drop (prefix_len is_ascii_whitespace text) text

unfoldable pub trimmed : List ℕ → List ℕ
trimmed text = take (length (without_leading text)
    - suffix_len is_ascii_whitespace (without_leading text)) (without_leading text)

-- one digit or more, and nothing else
abbrev pub is_numeral : ℕ → List ℕ → Bool
is_numeral radix text = nat_lt 0 (length text) && list_all (λ c. is_digit c radix) text

-- the number of 128 bits of a numeral
unfoldable pub number_of : ℕ → List ℕ → Option ℕ
number_of radix text =
    if is_numeral radix text && nat_lt (digits_value radix text) (2 ^ 128)
    then Some (digits_value radix text) else None

-- digits, and before them a minus or none
abbrev pub is_integer : List ℕ → Bool
is_integer text =
    is_some (number_of 10 (if slice_index text 0 == 45 then drop 1 text else text))

-- the MD5 of 32 hexadecimal digits
abbrev pub md5_of : List ℕ → Option ℕ
md5_of text = if length text == 32 then number_of 16 text else None

-- ---- lines

-- the fields of a row, which commas part: stream, dts, pts, duration, size, MD5; of more fields
-- nothing is said
abbrev pub field : ℕ → List ℕ → List ℕ
field zero row = trimmed (before 44 row)
field (suc k) row = field k (after 44 row)

-- a row, by its stream, whether it has the four numbers between, and its MD5
abbrev pub row_says : Option ℕ → Bool → Option ℕ → Md5Line
row_says (Some stream) true (Some md5) = line.Picture stream md5
row_says None numbers md5 = line.Other
row_says (Some stream) false md5 = line.Other
row_says (Some stream) true None = line.Other

abbrev pub row_said : List ℕ → Md5Line
row_said row = row_says (number_of 10 (field 0 row))
    ((is_integer (field 1 row) && is_integer (field 2 row))
    && (is_integer (field 3 row) && is_integer (field 4 row))) (md5_of (field 5 row))

-- the text is this name
abbrev pub is_text : List ℕ → List ℕ → Bool
is_text text name = pointwise nat_eq text name

-- a head that names the kind of a stream, of which video counts
abbrev pub video_says : Option ℕ → Bool → Md5Line
video_says (Some stream) true = line.Video stream
video_says None is_video = line.Head
video_says (Some stream) false = line.Head

-- a head, by what stands before its colon, and after it
abbrev pub head_says : List ℕ → List ℕ → Md5Line
head_says name value =
    if is_text name (codes "#hash")
    then (if is_text value (codes "MD5") then line.Head else line.Other)
    else if is_text (take 12 name) (codes "#media_type ")
    then video_says (number_of 10 (trimmed (drop 12 name))) (is_text value (codes "video"))
    else line.Head

abbrev pub head_said : List ℕ → Md5Line
head_said head = head_says (before 58 head) (trimmed (after 58 head))

-- the most bytes of a line
unfoldable pub longest_line : ℕ
longest_line = 65536

-- a line, without its line feed
unfoldable pub says : List ℕ → Md5Line
says text =
    if nat_lt longest_line (length text) then line.Other
    else if slice_index text 0 == 35 then head_said text else row_said text
