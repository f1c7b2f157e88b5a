-- How long a file lasts, in milliseconds: to the nearest one, and from a half on to the next one.
use Rattle.std.specs.Prelude.{ℕ, ◌+◌, ◌*◌, ◌/◌, ◌%◌, ◌^◌, ◌==◌, ◌&&◌, if◌then◌else◌, max, not}
use Rattle.std.specs.Prelude.{nat_lt}
use Rattle.std.specs.Prelude.{List, [], ◌∷◌, ◌++◌, codes, decimal, length, Option, Some, None}
use Rattle.std.specs.Prelude.{Result}
use Rattle.std.specs.Prelude.{Ok, Err}
use Rattle.ffv1_reads.specs.declared.fault.FileFault.{FileFault}
use Rattle.ffv1_ebml.specs.Contents.{number_in}
use Rattle.ffv1_ebml.specs.Vints.{number_of}
use Rattle.ffv1_outline.specs.declared.durations.Binary.{Binary}
use Rattle.ffv1_outline.specs.declared.facts.Form.{Form}
use Rattle.ffv1_outline.specs.declared.facts.Form.TheVariants as forms
use Rattle.ffv1_outline.specs.Facts.{unknown_value}

-- a quotient to the nearest number, and from a half on to the next one
unfoldable pub rounded : ℕ → ℕ → ℕ
rounded n d = (2 * n + d) / (2 * d)

-- what has no room in 64 bits is unknown
abbrev pub fitting : ℕ → Option ℕ
fitting n = if nat_lt n (2 ^ 64) then Some n else None

-- frames that last so many seconds by so many each
abbrev pub frames_last : ℕ → ℕ → ℕ → Option ℕ
frames_last frames scale rate =
    if rate == 0 then None else fitting (rounded (1000 * (frames * scale)) rate)

-- significand * 2 ^ power / 2 ^ bias times a scale in nanoseconds
unfoldable pub scaled : ℕ → ℕ → ℕ → ℕ → Option ℕ
scaled significand power bias scale =
    fitting (rounded (significand * scale * 2 ^ power) (1000000 * 2 ^ bias))

-- the binary formats of IEEE 754 of 32 and 64 bits
abbrev pub binary32 : Binary
binary32 = record { fractions = 2 ^ 23; exponents = 2 ^ 8; bias = 127 + 23 }

abbrev pub binary64 : Binary
binary64 = record { fractions = 2 ^ 52; exponents = 2 ^ 11; bias = 1023 + 52 }

-- the bits of the exponent, and the significand: a normal number has one more bit, a 1
abbrev pub exponent_in : Binary → ℕ → ℕ
exponent_in b bits = bits / b.fractions % b.exponents

abbrev pub significand_in : Binary → ℕ → ℕ
significand_in b bits =
    if exponent_in b bits == 0 then bits % b.fractions
    else b.fractions + bits % b.fractions

-- a number with its sign bit set, an infinity or no number says no duration; of a subnormal number
-- the exponent is that of the least normal one
unfoldable pub lasts_by : Binary → ℕ → ℕ → Option ℕ
lasts_by b scale bits =
    if nat_lt bits (b.fractions * b.exponents) && not (exponent_in b bits + 1 == b.exponents)
    then scaled (significand_in b bits) (max 1 (exponent_in b bits)) b.bias scale
    else None

-- a float of 4 or 8 bytes (RFC 8794, 7.3)
abbrev pub float_lasts : ℕ → List ℕ → Option ℕ
float_lasts scale content =
    if length content == 4 then lasts_by binary32 scale (number_of content)
    else if length content == 8 then lasts_by binary64 scale (number_of content)
    else None

-- Duration, in units of TimestampScale (RFC 9559, 5.1.2.9, 5.1.2.10)
abbrev pub segment_lasts : List ℕ → Result ℕ FileFault → Option ℕ
segment_lasts duration (Ok scale) = float_lasts scale duration
segment_lasts duration (Err f) = None

unfoldable pub duration_of : List ℕ → List ℕ → Option ℕ
duration_of scale duration = segment_lasts duration (number_in 1000000 scale)

-- three digits
abbrev pub three_digits : ℕ → List ℕ
three_digits n = (48 + n / 100) ∷ (48 + n / 10 % 10) ∷ (48 + n % 10) ∷ []

abbrev pub unit : Form → List ℕ
unit forms.Text = codes " s"
unit forms.Json = []

-- seconds with three decimals
unfoldable pub seconds : Form → Option ℕ → List ℕ
seconds form None = unknown_value form
seconds form (Some n) =
    decimal (n / 1000) ++ codes "." ++ three_digits (n % 1000) ++ unit form
