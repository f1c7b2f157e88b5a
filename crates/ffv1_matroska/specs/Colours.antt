-- What the content of Video says of colours (RFC 9559, 5.1.4.1.28.16), in memory. No fault is of
-- them: what can't be read says nothing.
use Rattle.std.specs.Prelude.{ℕ, if◌then◌else◌, nat_lt, List, [], Some, None, Result, Ok, Err}
use Rattle.ffv1_reads.specs.declared.colour.Colour.{Colour}
use Rattle.ffv1_reads.specs.declared.fault.FileFault.{FileFault}
use Rattle.ffv1_ebml.specs.Contents.{Found, found, number_in}

-- the IDs of Colour and of what is looked for in it
abbrev pub colour : ℕ
colour = 0x55B0

abbrev pub matrix_coefficients : ℕ
matrix_coefficients = 0x55B1

abbrev pub chroma_siting_horz : ℕ
chroma_siting_horz = 0x55B7

abbrev pub chroma_siting_vert : ℕ
chroma_siting_vert = 0x55B8

abbrev pub range : ℕ
range = 0x55B9

abbrev pub transfer_characteristics : ℕ
transfer_characteristics = 0x55BA

abbrev pub primaries : ℕ
primaries = 0x55BB

-- what was found, and no bytes if nothing was, or an element before it can't be read
abbrev pub bytes_found : Found → List ℕ
bytes_found (Ok (Some bytes)) = bytes
bytes_found (Ok None) = []
bytes_found (Err f) = []

-- a number of 0 to 255; any other says nothing
abbrev pub one_byte : ℕ → Result ℕ FileFault → ℕ
one_byte default (Ok n) = if nat_lt 255 n then default else n
one_byte default (Err f) = default

-- the number that the first element with this ID holds. It has its default if there is none, if it
-- has no bytes, more than 8 or a number above 255, and if an element up to it can't be read
abbrev pub colour_field : ℕ → ℕ → List ℕ → ℕ
colour_field ident default content =
    one_byte default (number_in default (bytes_found (found ident content)))

-- what the content of Colour says (5.1.4.1.28.17, 5.1.4.1.28.23 to 5.1.4.1.28.27)
abbrev pub colour_of : List ℕ → Colour
colour_of content = record {
  matrix = colour_field matrix_coefficients 2 content;
  transfer = colour_field transfer_characteristics 2 content;
  primaries = colour_field primaries 2 content;
  range = colour_field range 0 content;
  siting_across = colour_field chroma_siting_horz 0 content;
  siting_down = colour_field chroma_siting_vert 0 content;
}

-- what the content of Video says: its first Colour counts
unfoldable pub colour_in : List ℕ → Colour
colour_in picture = colour_of (bytes_found (found colour picture))
