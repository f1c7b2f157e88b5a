use Rattle.std.proofs.Common.{◌≡◌, ◌++◌, List, ℕ, take}
use Rattle.ffv1_record.specs.Parity.{parity_of}
use Rattle.ffv1_record.proofs.remainder.parity_behind.Given as goal

abbrev pub invariant-loop-byte : goal.invariant-loop-byte
invariant-loop-byte l = (bytes : List ℕ) → l.parity ≡ parity_of bytes →
    l.remainder ≡ parity_of (bytes ++ take l.byte-index l.more)
