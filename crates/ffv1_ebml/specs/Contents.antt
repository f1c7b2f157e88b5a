-- Content that is in memory: its elements, one after the other, and what they hold.
use Rattle.std.specs.Prelude.{ℕ, suc, zero, ◌==◌, ◌&&◌, if◌then◌else◌, not, nat_lt, List, [], ◌∷◌}
use Rattle.std.specs.Prelude.{length, take, drop, Option, Some, None, Result, Ok, Err}
use Rattle.std.specs.List.{before_first}
use Rattle.ffv1_reads.specs.Reads.{Met, Short, Stop}
use Rattle.ffv1_reads.specs.declared.fault.FileFault.{FileFault}
use Rattle.ffv1_reads.specs.declared.fault.FileFault.TheVariants as fault
use Rattle.ffv1_sum.specs.Sum.{crc_of, number_of as low_number}
use Rattle.ffv1_ebml.specs.declared.element.Element.{Element}
use Rattle.ffv1_ebml.specs.declared.sum.Sum.{Sum}
use Rattle.ffv1_ebml.specs.declared.sum.Sum.TheVariants.{Absent}
use Rattle.ffv1_ebml.specs.Elements.{element_read, is_crc}
use Rattle.ffv1_ebml.specs.Vints.{number_of}

-- an element in memory, and what comes after it
pub record Part : Type 0 where
  pub ident : ℕ
  pub content : List ℕ
  pub rest : List ℕ

-- by its header and what comes after that; its size must be known
abbrev pub part_with : ℕ → List ℕ → Option ℕ → Result (Option Part) FileFault
part_with ident text None = Err fault.BadElement
part_with ident text (Some size) =
    Ok (Some (record { ident = ident; content = take size text; rest = drop size text }))

abbrev pub part_read : Result ((Element × Sum) × List ℕ) Stop → Result (Option Part) FileFault
part_read (Ok p) = part_with p.0.0.ident p.1 p.0.0.size
part_read (Err (Met f rest)) = Err f
part_read (Err (Short w)) = Err fault.Truncated

-- the first element of some content, whose header is read as one in a parent of so many bytes; none
-- if there are no bytes
unfoldable pub first_part : List ℕ → Result (Option Part) FileFault
first_part [] = Ok None
first_part (b ∷ bs) = part_read (element_read (length (b ∷ bs)) Absent (b ∷ bs))

abbrev pub Found : Type 0
Found = Result (Option (List ℕ)) FileFault

abbrev pub found_or_on : ℕ → (List ℕ → Found) → Result (Option Part) FileFault → Found
found_or_on ident on (Err f) = Err f
found_or_on ident on (Ok None) = Ok None
found_or_on ident on (Ok (Some p)) = if p.ident == ident then Ok (Some p.content) else on p.rest

-- the content of the first element with this ID, among at most so many
unfoldable pub found_up_to : ℕ → ℕ → List ℕ → Found
found_up_to zero ident content = Ok None
found_up_to (suc most) ident content =
    found_or_on ident (found_up_to most ident) (first_part content)

-- among all, of which each has at least 2 bytes. An element before it that can't be read is the
-- fault; one after it is not looked at
abbrev pub found : ℕ → List ℕ → Found
found ident content = found_up_to (length content) ident content

-- a number of 0 to 8 bytes (RFC 8794, 7.2), which has a default if there are none
abbrev pub number_in : ℕ → List ℕ → Result ℕ FileFault
number_in default [] = Ok default
number_in default (b ∷ bs) =
    if nat_lt 8 (length (b ∷ bs)) then Err fault.BadElement else Ok (number_of (b ∷ bs))

-- a text ends before its first byte 0 (7.4, 13)
abbrev pub text_in : List ℕ → List ℕ
text_in content = before_first (λ b. b == 0) content

-- the CRC-32 of some content: if its first element is one of 4 bytes, they are the sum of all that
-- comes after it, low end first
abbrev pub sum_of_part : Result (Option Part) FileFault → Result (Unit {0}) FileFault
sum_of_part (Err f) = Err f
sum_of_part (Ok None) = Ok tt
sum_of_part (Ok (Some p)) =
    if is_crc p.ident (length p.content) && not (low_number p.content == crc_of p.rest)
    then Err fault.Checksum
    else Ok tt

abbrev pub content_told : List ℕ → Result (Unit {0}) FileFault
content_told content = sum_of_part (first_part content)
