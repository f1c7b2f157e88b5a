-- Calls that may come to the end of the input if there is nothing more.
use Rattle.std.specs.Prelude.{◌≡◌, ◌⊎◌, ℕ, List, Option, Some, None, Result, Ok, Err}
use Rattle.std.specs.Prelude.{if◌then◌else◌, nat_lt}
use Rattle.std.specs.Io.KnownBytes.{IsAtEnd}
use Rattle.ffv1_wire.specs.Failures.{one_more}
use Rattle.ffv1_wire.specs.Passage.{Passage}
use Rattle.ffv1_reads.specs.declared.fault.FileFault.{FileFault}
use Rattle.ffv1_reads.specs.declared.fault.FileFault.TheVariants as fault
use Rattle.ffv1_avi.specs.declared.place.Extent.{Extent}
use Rattle.ffv1_avi.specs.declared.place.Extent.TheVariants.{FirstMovi, EveryRiff}
use Rattle.ffv1_reads.specs.Ends.{Stops}
use Rattle.ffv1_reads.specs.Reads.{Read, Reading, Refused, Wants}

-- bytes were read, and if nothing comes after them, there is nothing more; the first movi does not
-- end so
abbrev pub Halts : {X : Type 0} → Extent → Reading (Option X) → Option (List ℕ) →
    Option (List ℕ) → Type 0
Halts FirstMovi reading old new = ⊥
Halts EveryRiff reading old new = Stops reading old new None

-- why a call was refused: a read may also fail if the end would be an answer
abbrev pub RefusedOrNone : {X : Type 0} → Extent → Reading (Option X) → Option (List ℕ) →
    Option (List ℕ) → ℕ → ℕ → FileFault → Type 0
RefusedOrNone extent reading old new before after fault.Read =
    (after ≡ one_more before) × (Wants reading old new ⊎ Halts extent reading old new)
RefusedOrNone extent reading old new before after f = Refused reading old new before after f

-- a value was read; or nothing more is there
abbrev pub ReadOrNone : {X : Type 0} → Extent → Reading (Option X) → Option (List ℕ) →
    Option (List ℕ) → Option X → Type 0
ReadOrNone extent reading old new x =
    Read reading old new x ⊎ ((Halts extent reading old new × IsAtEnd new) × (x ≡ None))

-- the answer of a call if the end of the input may be one
abbrev pub AnswersOrNone : {X Y : Type 0} → Extent → (Y → Option X) → Reading (Option X) →
    Passage → Result Y FileFault → Type 0
AnswersOrNone extent view reading p (Ok y) =
    (p.after ≡ p.before) × ReadOrNone extent reading p.old p.new (view y)
AnswersOrNone extent view reading p (Err f) =
    RefusedOrNone extent reading p.old p.new p.before p.after f

-- the bytes that were asked for, so many, if as many stand there
abbrev pub all_of : ℕ → ℕ → List ℕ → Option (List ℕ)
all_of size n bytes = if nat_lt n size then None else Some bytes
