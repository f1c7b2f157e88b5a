-- Headers of elements in damaged bytes: a fault of theirs is a value, so that reading goes on
-- after it.
use Rattle.std.specs.Prelude.{ℕ, ◌-◌, Bool, if◌then◌else◌, nat_lt, List, length, Option, Some, None}
use Rattle.std.specs.Prelude.{Result, Ok, Err}
use Rattle.ffv1_reads.specs.Reads.{Met, Reading, Short, Stop, given, ◌>>=◌}
use Rattle.ffv1_reads.specs.declared.fault.FileFault.{FileFault}
use Rattle.ffv1_reads.specs.declared.fault.FileFault.TheVariants as fault
use Rattle.ffv1_ebml.specs.declared.sum.Sum.{Sum}
use Rattle.ffv1_ebml.specs.declared.tried.Header.{Header}
use Rattle.ffv1_ebml.specs.declared.tried.Header.TheVariants.{Broken, Outside, Whole}
use Rattle.ffv1_ebml.specs.declared.vint.Vint.{Vint}
use Rattle.ffv1_ebml.specs.Sums.{summed}
use Rattle.ffv1_ebml.specs.Vints.{number_of, size_of, vint_read}
use Rattle.std.specs.Prelude.{take}

-- what a reading gives, or the fault that the bytes have
abbrev pub outcome : {X : Type 0} → Result (X × List ℕ) Stop →
    Result (Result X FileFault × List ℕ) Stop
outcome (Ok p) = Ok (Ok p.0, p.1)
outcome (Err (Met f rest)) = Ok (Err f, rest)
outcome (Err (Short w)) = Err (Short w)

-- a reading of which a fault is a value: after it comes what the reading left
abbrev pub tried : {X : Type 0} → Reading X → Reading (Result X FileFault)
tried reading = λ text. outcome (reading text)

-- the bytes of an integer, or the fault
abbrev pub vint_bytes : Result Vint FileFault → Result (List ℕ) FileFault
vint_bytes (Ok v) = Ok (take v.len v.bytes)
vint_bytes (Err f) = Err f

-- a size that was read, in a parent that has so many bytes left after it: it is known, and the
-- content fits
abbrev pub header_judged : ℕ → Sum → ℕ → Option ℕ → Header
header_judged ident sum left None = Broken fault.BadElement left
header_judged ident sum left (Some size) =
    if nat_lt left size then Broken fault.Truncated left else Whole ident size (left - size) sum

-- of a size at fault its first byte was read, if the parent has one
abbrev pub header_sized : ℕ → ℕ → Sum → Result (List ℕ) FileFault → Reading Header
header_sized ident left sum (Err f) = given (Broken f (left - 1))
header_sized ident left sum (Ok size) =
    given (header_judged ident (summed sum size) (left - length size) (size_of size))

-- what comes after an ID, in a parent that has so many bytes left after that
unfoldable pub size_tried : ℕ → ℕ → Sum → Reading Header
size_tried ident left sum = tried (vint_read 8 left) >>= header_sized ident left sum

-- of an ID at fault its first byte was read, if the parent has one
abbrev pub header_named : (ℕ → Bool) → ℕ → Sum → Result (List ℕ) FileFault → Reading Header
header_named outside left sum (Err f) = given (Broken f (left - 1))
header_named outside left sum (Ok ident) =
    if outside (number_of ident) then given (Outside (number_of ident) (left - length ident))
    else size_tried (number_of ident) (left - length ident) (summed sum ident)

-- the header of the next element in a parent that has so many bytes left, and outside of which
-- elements of some IDs stand, all of it summed
unfoldable pub header_tried : (ℕ → Bool) → ℕ → Sum → Reading Header
header_tried outside left sum = tried (vint_read 4 left) >>= header_named outside left sum
