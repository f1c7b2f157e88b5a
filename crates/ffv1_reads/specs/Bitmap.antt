-- The format of a stream of Video for Windows: BITMAPINFOHEADER, and after its 40 bytes the
-- configuration record (RFC 9043, 4.3.3; RFC 9559, 8).
use Rattle.std.specs.Str.{str_eq_ignore_ascii_case}
use Rattle.std.specs.Prelude.{ℕ, ◌&&◌, Bool, if◌then◌else◌, nat_lt, List, [], ◌∷◌, ◌++◌, codes}
use Rattle.byteorder.specs.Endian.{little_bytes}

-- a number of 4 bytes
abbrev pub number : ℕ → List ℕ
number n = little_bytes 4 n

-- two numbers of 2 bytes
abbrev pub pair : ℕ → ℕ → List ℕ
pair a b = little_bytes 2 a ++ little_bytes 2 b

-- these bytes are the name of FFV1, of which each letter may be small
unfoldable pub is_ffv1 : List ℕ → Bool
is_ffv1 bytes = str_eq_ignore_ascii_case bytes (codes "FFV1")

-- the header, with its own size, that of pictures in samples, and that of a picture in bytes:
-- biSize, biWidth, biHeight, biPlanes (which is always 1) and biBitCount (three samples of 8),
-- biCompression, biSizeImage, biXPelsPerMeter, biYPelsPerMeter, biClrUsed, biClrImportant
abbrev pub bitmap_header : ℕ → ℕ → ℕ → ℕ → List (List ℕ)
bitmap_header size width height image =
    number size ∷ number width ∷ number height ∷ pair 1 24 ∷ codes "FFV1"
    ∷ number image ∷ number 0 ∷ number 0 ∷ number 0 ∷ number 0 ∷ []

-- where the record ends in a format of so many bytes: where biSize says so, if that lies inside the
-- record; or else at the end
abbrev pub record_end : ℕ → ℕ → ℕ
record_end says size = if nat_lt 40 says && nat_lt says size then says else size
