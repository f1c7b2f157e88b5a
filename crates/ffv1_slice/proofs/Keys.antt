-- The key of the first slice, and what its bytes code.
use Rattle.std.proofs.Common.{◌≡◌, ℕ, true, false, List, [], subst, arith}
use Rattle.ffv1_range.specs.Interval.{interval_of}
use Rattle.ffv1_range.specs.Codes.{AreBytes, Codes, Inside}
use Rattle.ffv1_range.specs.Table.{Table}
use Rattle.ffv1_range.specs.Reading.{Reading}
use Rattle.ffv1_range.specs.Symbols.{Step}
use Rattle.ffv1_range.specs.History.{decisions_after}
use Rattle.ffv1_range.specs.Interval.{start}
use Rattle.ffv1_range.proofs.Nested.{same_bit}
use Rattle.ffv1_slice.specs.Head.{CodesKey, no_key}
use Rattle.ffv1_slice.specs.Coding.{ReadsAt, StandsAfter}

pub key_coded : (t : Table) (old new : Reading) (steps : List Step) → ReadsAt t 0 1 old new steps → StandsAfter old t [] → Codes old.bytes (decisions_after t [] steps)
key_coded t old new steps reads stands =
    subst (λ bytes. Inside bytes (interval_of (decisions_after t [] steps))) reads.bytes (reads.at [] tt stands).inside

different : true ≡ false → ⊥
different e = cc

pub one_key : (t : Table) (bytes : List ℕ) → AreBytes bytes → CodesKey bytes t 0 → Codes bytes (decisions_after t [] no_key) → ⊥
one_key t bytes are one none =
    different (same_bit bytes are start 128 true false [] [] (omega arith) tt tt one none)
