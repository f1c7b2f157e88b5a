-- What stands behind the end of a file, of which the first bytes are looked at.
use Rattle.std.specs.Prelude.{ℕ, ◌||◌, Bool, if◌then◌else◌, nat_eq, nat_lt, List, [], ◌∷◌, length}
use Rattle.std.specs.Prelude.{take, drop, codes, Ok}
use lib.Pointwise.{pointwise}
use Rattle.ffv1_reads.specs.Reads.{Reading, given, refused, ◌>>=◌}
use Rattle.ffv1_reads.specs.declared.fault.FileFault.TheVariants as fault

-- so many bytes, or all that there are
abbrev pub looked_at : ℕ → Reading (List ℕ)
looked_at n = λ text. Ok (take n text, drop n text)

-- another file begins with these four bytes: the ID of EBML (RFC 8794, 11.2.1), or RIFF
unfoldable pub begins_file : List ℕ → Bool
begins_file bytes =
    pointwise nat_eq bytes (0x1A ∷ 0x45 ∷ 0xDF ∷ 0xA3 ∷ []) || pointwise nat_eq bytes (codes "RIFF")

-- another file is refused; whether any other bytes stand there
abbrev pub behind_judged : List ℕ → Reading Bool
behind_judged bytes =
    if begins_file bytes then refused fault.Another else given (nat_lt 0 (length bytes))

-- what stands behind a file that has a size
unfoldable pub behind_read : Reading Bool
behind_read = looked_at 4 >>= behind_judged
