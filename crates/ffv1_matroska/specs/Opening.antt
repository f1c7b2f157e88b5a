-- The beginning of a file: the header of EBML (RFC 8794, 11.2), Voids after it, and the header of
-- the Segment (RFC 9559, 5.1).
use Rattle.std.specs.Prelude.{ℕ, suc, zero, ◌-◌, ◌==◌, true, false, if◌then◌else◌, nat_lt}
use Rattle.std.specs.Prelude.{List, ◌∷◌, slice_index, Option, Some, None}
use Rattle.std.specs.Prelude.{codes, Result, Ok, Err}
use Rattle.ffv1_reads.specs.Reads.{Kept, Reading, given, passed, refused, taken, wanted, ◌>>=◌}
use Rattle.ffv1_reads.specs.declared.fault.FileFault.{FileFault}
use Rattle.ffv1_reads.specs.declared.fault.FileFault.TheVariants as fault
use Rattle.ffv1_ebml.specs.Contents.{content_told, number_in, text_in}
use Rattle.ffv1_ebml.specs.Elements.{data_read}
use Rattle.ffv1_ebml.specs.Vints.{number_of}
use Rattle.ffv1_ebml.specs.declared.sum.Sum.TheVariants.{Absent}
use Rattle.ffv1_reads.specs.Head.{limit}
use Rattle.ffv1_matroska.specs.Sizes.{size_with}
use Rattle.ffv1_matroska.specs.Tracks.{content_at, is_text, ◌>>?◌}
use Rattle.ffv1_matroska.specs.declared.place.Place.{Place}

-- the ID of Segment
abbrev pub segment : ℕ
segment = 0x18538067

-- the ID of Void, which has one byte
abbrev pub void : ℕ
void = 0xEC

-- the IDs of DocType, EBMLReadVersion and DocTypeReadVersion
abbrev pub doc_type : ℕ
doc_type = 0x4282

abbrev pub read_version : ℕ
read_version = 0x42F7

abbrev pub type_read_version : ℕ
type_read_version = 0x4285

-- the number of the first element with this ID, and 1 if there is none or it has no bytes
abbrev pub version_at : ℕ → List ℕ → Result ℕ FileFault
version_at ident content = content_at ident content >>? number_in 1

-- the header of EBML, in memory: its CRC-32, and then that it is of Matroska, of versions that are
-- read (RFC 8794, 11.2; RFC 9559, 5)
unfoldable pub header_in : List ℕ → Result (Unit {0}) FileFault
header_in content = content_told content >>? λ _.
    (content_at doc_type content >>? λ type.
    (if is_text (text_in type) (codes "matroska")
    then (version_at read_version content >>? λ v.
    (if nat_lt 1 v then Err fault.NotMatroska
    else (version_at type_read_version content >>? λ w.
    (if nat_lt 4 w then Err fault.NotMatroska else Ok tt))))
    else Err fault.NotMatroska))

-- four bytes that are this ID
unfoldable pub ident_read : ℕ → Reading (Unit {0})
ident_read ident = taken 4 >>= λ bytes.
    if number_of bytes == ident then given tt else refused fault.NotMatroska

-- a size, of at most 8 bytes
unfoldable pub top_size : Reading (Option ℕ)
top_size = data_read 8 Absent >>= λ p. given (size_with (8 - p.0.left) p.0.value)

-- content that is kept: its size must be known, and not above the limit
unfoldable pub content_kept : Option ℕ → Reading (List ℕ)
content_kept None = refused fault.BadElement
content_kept (Some size) =
    if nat_lt limit size then refused fault.ChunkTooLong else wanted Kept size

-- the beginning of a Segment; one of unknown size counts as 2^56 - 1 bytes
abbrev pub segment_begun : Option ℕ → Place
segment_begun None =
    record {
      segment = 72057594037927935;
      endless = true;
      loose = false;
      cluster = 0;
      group = 0;
      sum = Absent;
    }
segment_begun (Some size) =
    record {
      segment = size;
      endless = false;
      loose = false;
      cluster = 0;
      group = 0;
      sum = Absent;
    }

-- a Void after its ID (RFC 8794, 11.3): its size must be known, and so many bytes are passed
abbrev pub void_sized : Option ℕ → Reading (Unit {0})
void_sized None = refused fault.BadElement
void_sized (Some size) = passed size

unfoldable pub void_read : Reading (Unit {0})
void_read = top_size >>= void_sized

-- the header of the Segment after the first byte of its ID: its size
unfoldable pub segment_after : ℕ → Reading (Option ℕ)
segment_after first = taken 3 >>= λ others.
    if number_of (first ∷ others) == segment then top_size else refused fault.NotMatroska

-- the first byte of an ID says which it is
abbrev pub void_or_segment : ℕ → Reading (Option (Option ℕ))
void_or_segment first =
    if first == void then (void_read >>= λ _. given None)
    else (segment_after first >>= λ size. given (Some size))

-- after the header of EBML a Void is passed; no other element may come before the Segment, which
-- says its size
unfoldable pub root_read : Reading (Option (Option ℕ))
root_read = taken 1 >>= λ bytes. void_or_segment (slice_index bytes 0)

-- after a Void it goes on
abbrev pub root_or_on : Reading (Option ℕ) → Option (Option ℕ) → Reading (Option ℕ)
root_or_on on None = on
root_or_on on (Some size) = given size

-- the size of the Segment, which is one of so many elements
unfoldable pub segment_up_to : ℕ → Reading (Option ℕ)
segment_up_to zero = refused fault.NotMatroska
segment_up_to (suc most) = root_read >>= root_or_on (segment_up_to most)

-- more elements than a file has: 2^64 - 1
abbrev pub most_elements : ℕ
most_elements = 18446744073709551615

-- the size of the Segment, which comes next or after Voids
unfoldable pub segment_entered : Reading (Option ℕ)
segment_entered = segment_up_to most_elements
