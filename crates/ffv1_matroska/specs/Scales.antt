-- TimestampScale of Info (RFC 9559, 5.1.2.9): how many nanoseconds a tick has, of the Info that
-- comes last before the first Cluster; 1000000 if that has none. It is 0 where it is not known: if
-- no Info comes there, as where a program moved it behind the Clusters; or where TimestampScale is
-- none of the elements that can be read in the beginning of a long Info.
use Rattle.std.specs.Prelude.{ℕ, suc, zero, ◌==◌, Bool, true, false, if◌then◌else◌}
use Rattle.std.specs.Prelude.{min, nat_le, List, take, drop, Option, Some, None, Result, Ok, Err}
use Rattle.ffv1_reads.specs.Reads.{Reading, Stop, taken, ◌>>=◌}
use Rattle.ffv1_reads.specs.declared.fault.FileFault.{FileFault}
use Rattle.ffv1_ebml.specs.Contents.{Found, found, number_in}
use Rattle.ffv1_ebml.specs.Elements.{element_read, stated_judged}
use Rattle.ffv1_ebml.specs.declared.element.Element.{Element}
use Rattle.ffv1_ebml.specs.declared.sum.Sum.{Sum}
use Rattle.ffv1_ebml.specs.declared.sum.Sum.TheVariants.{Absent}
use Rattle.ffv1_matroska.specs.Internal.{bytes_of}
use Rattle.ffv1_matroska.specs.Opened.{ebml_read}
use Rattle.ffv1_matroska.specs.Opening.{segment_begun, segment_entered}
use Rattle.ffv1_matroska.specs.Places.{amount, segment_at}
use Rattle.ffv1_matroska.specs.Segments.{cluster, header_read}
use Rattle.ffv1_matroska.specs.WrittenIdents.{info, timestamp_scale}
use Rattle.ffv1_matroska.specs.declared.place.Place.{Place}

-- it is looked for in so many bytes after the first element of Info
abbrev pub window : ℕ
window = 4096

-- what a TimestampScale says; with no bytes it says its default
abbrev pub scale_of : Result ℕ FileFault → ℕ
scale_of (Ok scale) = scale
scale_of (Err f) = 0

-- by the first of some elements that is one; if none is, it is the default, if these are all
abbrev pub scale_told : Bool → Found → ℕ
scale_told all (Ok (Some bytes)) = scale_of (number_in 1000000 bytes)
scale_told true (Ok None) = 1000000
scale_told false (Ok None) = 0
scale_told all (Err f) = 0

-- of so many bytes, with which these begin
abbrev pub scale_among : ℕ → List ℕ → ℕ
scale_among left text =
    scale_told (nat_le left window) (found timestamp_scale (take (min left window) text))

-- a CRC-32, and so many bytes after it that have this sum
abbrev pub crc_judged : ℕ → Reading (Unit {0})
crc_judged left = taken 4 >>= stated_judged left

-- of one of so many bytes, with which these begin
abbrev pub scale_sized : ℕ → List ℕ → ℕ
scale_sized size text =
    if nat_le size 8 then scale_of (number_in 1000000 (take size text)) else 0

-- after the header of the first element of Info
abbrev pub scale_after : Element → Option ℕ → List ℕ → ℕ
scale_after e None text = 0
scale_after e (Some size) text =
    if e.ident == timestamp_scale then scale_sized size text
    else scale_among e.left (drop size text)

abbrev pub scale_headed : Result ((Element × Sum) × List ℕ) Stop → ℕ
scale_headed (Ok (p, text)) = scale_after p.0 p.0.size text
scale_headed (Err why) = 0

-- of the content of Info, so many bytes, with which these begin
unfoldable pub scale_in : ℕ → List ℕ → ℕ
scale_in count text = if count == 0 then 1000000 else scale_headed (element_read count Absent text)

-- after an element of the Segment, whose content these begin with
abbrev pub scale_with : ℕ → Option ℕ → ℕ → List ℕ → ℕ
scale_with ident None scale text = scale
scale_with ident (Some size) scale text = if ident == info then scale_in size text else scale

-- of elements of the Segment up to the first Cluster; `on` goes on after one
abbrev pub scale_on : (ℕ → Place → List ℕ → ℕ) → ℕ → Place →
    Result (Option Element × List ℕ) Stop → ℕ
scale_on on scale place (Ok (Some e, text)) =
    if e.ident == cluster then scale
    else on (scale_with e.ident e.size scale text) (segment_at place false e.left)
    (drop (bytes_of e.size) text)
scale_on on scale place (Ok (None, text)) = scale
scale_on on scale place (Err why) = scale

unfoldable pub scale_up_to : ℕ → ℕ → Place → List ℕ → ℕ
scale_up_to zero scale place text = scale
scale_up_to (suc most) scale place text =
    scale_on (scale_up_to most) scale place (header_read place text)

-- the same from a place of the Segment on
abbrev pub scale_from : ℕ → Place → List ℕ → ℕ
scale_from scale place text = scale_up_to (suc (amount place)) scale place text

abbrev pub scale_entered : Result (Option ℕ × List ℕ) Stop → ℕ
scale_entered (Ok (size, text)) = scale_from 0 (segment_begun size) text
scale_entered (Err why) = 0

-- how many nanoseconds a tick of a file has
unfoldable pub tick_in : List ℕ → ℕ
tick_in text = scale_entered ((ebml_read >>= λ _. segment_entered) text)
