-- The CRC-32 of an element (RFC 8794, 11.3.1), summed while its content is read.
use Rattle.std.specs.Prelude.{ℕ, ◌==◌, Bool, true, List, fold, bit_xor}
use Rattle.ffv1_reads.specs.Reads.{Kept, Reading, given, taken, wanted, ◌>>=◌}
use Rattle.ffv1_sum.specs.Sum.{byte_step, turned}
use Rattle.ffv1_ebml.specs.declared.sum.Sum.{Sum}
use Rattle.ffv1_ebml.specs.declared.sum.Sum.TheVariants.{Absent, Begins, Awaits}

-- the sum after some bytes more
abbrev pub summed : Sum → List ℕ → Sum
summed Absent bytes = Absent
summed Begins bytes = Begins
summed (Awaits stated so_far) bytes = Awaits stated (fold byte_step so_far bytes)

-- at the end of the content: if a sum is awaited, it is that of the bytes
abbrev pub is_met : Sum → Bool
is_met Absent = true
is_met Begins = true
is_met (Awaits stated so_far) = stated == bit_xor so_far turned

-- so many bytes, to look at; to pass; to keep
abbrev pub taken_summed : ℕ → Sum → Reading (List ℕ × Sum)
taken_summed n sum = taken n >>= λ bytes. given (bytes, summed sum bytes)

abbrev pub passed_summed : ℕ → Sum → Reading Sum
passed_summed n sum = taken n >>= λ bytes. given (summed sum bytes)

abbrev pub kept_summed : ℕ → Sum → Reading (List ℕ × Sum)
kept_summed n sum = wanted Kept n >>= λ bytes. given (bytes, summed sum bytes)

-- so many bytes are passed, and a sum of those before goes on
abbrev pub passed_so_far : ℕ → ℕ → Reading ℕ
passed_so_far n so_far = taken n >>= λ bytes. given (fold byte_step so_far bytes)
