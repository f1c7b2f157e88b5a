-- The text of pictures as FFmpeg's framemd5 writes it: a head, and a line a picture.
use Rattle.std.specs.Prelude.{ℕ, suc, ◌+◌, ◌/◌, ◌%◌, ◌==◌, ◌||◌, nat_lt, Bool, if◌then◌else◌}
use Rattle.std.specs.Prelude.{List, [], ◌∷◌, ◌++◌, length, drop, codes, decimal}
use Rattle.md5.specs.Md5.{md5}
use Rattle.ffv1_range.specs.Counts.{saturated}
use Rattle.ffv1_frame.specs.Picture.{Planes}
use Rattle.ffv1_matroska.specs.Rates.{common_up_to}
use Rattle.ffv1_y4m.specs.declared.head.VideoHead.{VideoHead}
use Rattle.ffv1_video.specs.RawPicture.{raw_bytes}
use Rattle.ffv1_video.specs.NumberLines.{pair_line}

-- a number at the end of a field that is as wide as these blanks, and a comma
unfoldable pub field : List ℕ → ℕ → List ℕ
field blanks n = drop (length (decimal n)) blanks ++ decimal n ++ codes ", "

-- a digit of a hexadecimal number, in lower case
abbrev pub small_digit : ℕ → ℕ
small_digit n = if nat_lt n 10 then 48 + n else 87 + n

-- two of them for each byte
abbrev pub small_hexadecimal : List ℕ → List ℕ
small_hexadecimal [] = []
small_hexadecimal (b ∷ bs) = small_digit (b / 16) ∷ small_digit (b % 16) ∷ small_hexadecimal bs

-- the line of a picture of so many bytes: its stream; its number, when it is decoded and when it is
-- shown; how long it is shown; its bytes and their MD5
unfoldable pub line_of : ℕ → ℕ → List ℕ → List ℕ
line_of i size hash =
    codes "0, " ++ field (codes "          ") i ++ field (codes "          ") i
    ++ field (codes "        ") 1 ++ field (codes "        ") size ++ small_hexadecimal hash
    ++ codes "\n"

-- the line of a picture of these bytes; a number past 2^64 - 1 stays there
abbrev pub md5_line : ℕ → List ℕ → List ℕ
md5_line i bytes = line_of (saturated i) (saturated (length bytes)) (md5 bytes)

-- a picture's time in seconds, in lowest terms; 1/25 if no rate is known
abbrev pub time_base : ℕ → ℕ → ℕ × ℕ
time_base rate scale =
    if (rate == 0) || (scale == 0) then (1, 25)
    else (scale / common_up_to rate scale scale, rate / common_up_to rate scale scale)

-- the aspect of a sample as it stands; 0/1 if none is known
abbrev pub aspect_of : ℕ → ℕ → ℕ × ℕ
aspect_of num den = if num == 0 then (0, 1) else (num, den)

-- the lines before those of the pictures
unfoldable pub md5_head : VideoHead → List ℕ
md5_head h =
    codes "#format: frame checksums\n#version: 2\n#hash: MD5\n#software: ffv1\n"
    ++ pair_line (codes "#tb 0: ") (time_base h.rate h.scale).0 (codes "/")
    (time_base h.rate h.scale).1
    ++ codes "#media_type 0: video\n#codec_id 0: rawvideo\n"
    ++ pair_line (codes "#dimensions 0: ") h.width (codes "x") h.height
    ++ pair_line (codes "#sar 0: ") (aspect_of h.sar_num h.sar_den).0 (codes "/")
    (aspect_of h.sar_num h.sar_den).1
    ++ codes "#stream#, dts,        pts, duration,     size, hash\n"

-- the lines of pictures from a number on
abbrev pub md5_lines : Bool → ℕ → ℕ → List Planes → List ℕ
md5_lines rct depth i [] = []
md5_lines rct depth i (p ∷ ps) =
    md5_line i (raw_bytes rct depth p) ++ md5_lines rct depth (suc i) ps

-- the text of pictures with this head; nothing if there is none
abbrev pub md5_text : Bool → ℕ → VideoHead → List Planes → List ℕ
md5_text rct depth h [] = []
md5_text rct depth h (p ∷ ps) = md5_head h ++ md5_lines rct depth 0 (p ∷ ps)

-- the text of the picture with this number: its line, and before the first one the head
abbrev pub next_md5 : Bool → ℕ → VideoHead → ℕ → Planes → List ℕ
next_md5 rct depth h i planes =
    (if i == 0 then md5_head h else []) ++ md5_line i (raw_bytes rct depth planes)
