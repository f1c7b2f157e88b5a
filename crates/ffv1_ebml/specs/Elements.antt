-- The header of an element (RFC 8794, 3 to 6), in a parent that has so many bytes left: an ID of at
-- most 4 bytes, and a size of at most 8 that fits in the parent.
use Rattle.std.specs.List.{list_any}
use Rattle.std.specs.Prelude.{ℕ, ◌≤◌, IfSome, ◌+◌, ◌-◌, ◌==◌, ◌&&◌, Bool, false}
use Rattle.std.specs.Prelude.{if◌then◌else◌, nat_lt}
use Rattle.std.specs.Prelude.{List, [], ◌∷◌, length}
use Rattle.std.specs.Prelude.{Option, Some, None, Ok}
use Rattle.ffv1_reads.specs.Reads.{Reading, given, passed, refused, taken, ◌>>=◌}
use Rattle.ffv1_reads.specs.declared.fault.FileFault.TheVariants as fault
use Rattle.ffv1_sum.specs.Sum.{number_of as low_number, turned}
use Rattle.ffv1_ebml.specs.declared.element.Data.{Data}
use Rattle.ffv1_ebml.specs.declared.element.Element.{Element}
use Rattle.ffv1_ebml.specs.declared.sum.Sum.{Sum}
use Rattle.ffv1_ebml.specs.declared.sum.Sum.TheVariants.{Absent, Awaits}
use Rattle.ffv1_ebml.specs.Sums.{is_met, passed_summed, summed}
use Rattle.ffv1_ebml.specs.Vints.{data_of, number_of, size_of, vint_read, vint_rest}

-- after its header: a size that is known fits, and the parent has left what comes after the
-- element; of unknown size, what comes after the header
abbrev pub element_judged : ℕ → ℕ → Option ℕ → Reading Element
element_judged left ident None = given (record { ident = ident; size = None; left = left })
element_judged left ident (Some size) =
    if nat_lt left size then refused fault.Truncated
    else given (record { ident = ident; size = Some size; left = left - size })

-- after its ID
abbrev pub element_rest : ℕ → Sum → List ℕ → Reading (Element × Sum)
element_rest left sum ident =
    vint_read 8 (left - length ident) >>= λ size.
    (element_judged (left - length ident - length size) (number_of ident) (size_of size) >>= λ e.
    given (e, summed (summed sum ident) size))

-- the ID is one of these
abbrev pub is_among : List ℕ → ℕ → Bool
is_among idents ident = list_any (λ other. other == ident) idents

-- IDs of elements that stand only outside of a parent: none
abbrev pub none_outside : ℕ → Bool
none_outside ident = false

-- after its ID, in a parent outside of which elements of some IDs stand: an element with one of
-- these IDs is refused, and its size is not looked at
abbrev pub element_named : (ℕ → Bool) → ℕ → Sum → List ℕ → Reading (Element × Sum)
element_named outside left sum ident =
    if outside (number_of ident) then refused fault.BadElement else element_rest left sum ident

-- the header of the next element in a parent of that kind, all of it summed
unfoldable pub element_in : (ℕ → Bool) → ℕ → Sum → Reading (Element × Sum)
element_in outside left sum = vint_read 4 left >>= element_named outside left sum

-- the same in any other parent
abbrev pub element_read : ℕ → Sum → Reading (Element × Sum)
element_read left sum = element_in none_outside left sum

-- a variable-size integer alone, as a block's track number is one
abbrev pub data_read : ℕ → Sum → Reading (Data × Sum)
data_read left sum =
    vint_read 8 left >>= λ bytes.
    given (record { value = data_of bytes; left = left - length bytes }, summed sum bytes)

-- an element whose first byte was read, and nothing is summed
abbrev pub element_after : ℕ → ℕ → Reading Element
element_after left first =
    vint_rest 4 left (first ∷ []) >>= element_rest left Absent >>= λ p. given p.0

-- an element's content, and what is left after it, are within so many bytes
abbrev pub IsWithin : Element → ℕ → Type 0
IsWithin e most = (e.left ≤ most) × IfSome e.size (λ size. size + e.left ≤ most)

-- the next element, or none if the input has ended
abbrev pub element_or_end : ℕ → Reading (Option Element)
element_or_end left [] = Ok (None, [])
element_or_end left (b ∷ bs) = (element_read left Absent >>= λ p. given (Some p.0)) (b ∷ bs)

unfoldable pub first_read : ℕ → Reading (Option Element)
first_read left = if left == 0 then refused fault.Truncated else element_or_end left

-- the ID of CRC-32
abbrev pub crc_ident : ℕ
crc_ident = 0xBF

-- an element is one of CRC-32, of 4 bytes
abbrev pub is_crc : ℕ → ℕ → Bool
is_crc ident size = (ident == crc_ident) && (size == 4)

-- what awaits its sum has ended
abbrev pub sum_judged : Sum → Reading (Unit {0})
sum_judged sum = if is_met sum then given tt else refused fault.Checksum

-- so many bytes are passed that have this sum
abbrev pub stated_judged : ℕ → List ℕ → Reading (Unit {0})
stated_judged left stated = passed_summed left (Awaits (low_number stated) turned) >>= sum_judged

-- after the header of the first element of some content: if that is a CRC-32 of 4 bytes, they are
-- the sum of all that comes after it, low end first; all else is passed without a look
abbrev pub content_judged : Element → Option ℕ → Reading (Unit {0})
content_judged e None = refused fault.BadElement
content_judged e (Some size) =
    if is_crc e.ident size
    then (taken 4 >>= stated_judged e.left)
    else passed (size + e.left)

-- the content of an element, so many bytes, is passed; its CRC-32 is judged
unfoldable pub content_passed : ℕ → Reading (Unit {0})
content_passed count =
    if count == 0 then given tt
    else (element_read count Absent >>= λ p. content_judged p.0 p.0.size)
