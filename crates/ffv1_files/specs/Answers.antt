-- What a call on a reader of a file answers, by what the file reads as.
use Rattle.std.specs.Prelude.{◌≡◌, ◌⊎◌, ℕ, List, [], ◌++◌, Option, None, Result, Ok, Err}
use Rattle.ffv1_wire.specs.Failures.{one_more}
use Rattle.ffv1_wire.specs.Passage.{Passage}
use Rattle.ffv1_reads.specs.Known.{Known}
use Rattle.ffv1_reads.specs.Reads.{Kept, Met, Reading, Short, Stop, Want}
use Rattle.ffv1_reads.specs.declared.fault.FileFault.{FileFault}
use Rattle.ffv1_reads.specs.declared.fault.FileFault.TheVariants as fault

-- bytes of a file have this fault, with this left; those that end where more are wanted are
-- truncated
abbrev pub FaultsRead : {X : Type 0} → Reading X → List ℕ → List ℕ → FileFault → Type 0
FaultsRead reading text rest f =
    ((w : Want) × (reading text ≡ Err (Short w)) × (rest ≡ []) × (f ≡ fault.Truncated))
    ⊎ (reading text ≡ Err (Met f rest))

-- some of the bytes were read, up to what is left, and by themselves they read so
abbrev pub SoFar : {X : Type 0} → Reading X → Result (X × List ℕ) Stop → List ℕ → List ℕ → Type 0
SoFar reading result text rest =
    (bytes : List ℕ) × (text ≡ bytes ++ rest) × (reading bytes ≡ result)

-- more bytes are wanted
abbrev pub WantsMore : {X : Type 0} → Reading X → Want → List ℕ → List ℕ → Type 0
WantsMore reading w text rest = SoFar reading (Err (Short w)) text rest

-- what the end of the input may be to a reading: these values, and these faults
pub record Endings (X : Type 0) : Type 1 where
  pub values : X → Type 0
  pub faults : FileFault → Type 0

-- none
abbrev pub no_ending : {X : Type 0} → Endings X
no_ending = record { values = λ x. ⊥; faults = λ f. ⊥ }

-- that there is nothing more
abbrev pub nothing_more : {X : Type 0} → Endings (Option X)
nothing_more = record { values = λ o. o ≡ None; faults = λ f. ⊥ }

-- when a read may have failed: if more bytes were wanted, or if nothing after those that were read
-- would have been the end of the input, as this value or this fault
abbrev pub ReadFails : {X : Type 0} → Endings X → Reading X → List ℕ → List ℕ → Type 0
ReadFails {X = X} ends reading text rest =
    ((w : Want) × WantsMore reading w text rest)
    ⊎ ((x : X) × ends.values x × SoFar reading (Ok (x, [])) text rest)
    ⊎ ((f : FileFault) × ends.faults f × SoFar reading (Err (Met f [])) text rest)

-- why a file is not read on, by what the end of the input may be: a read failed, which was counted;
-- memory was refused for bytes that are kept, of which more were wanted; or the bytes have this
-- fault, if they are known
abbrev pub StopsReading : {X : Type 0} → Endings X → Reading X → Passage → FileFault → Type 0
StopsReading ends reading p fault.Read =
    (p.after ≡ one_more p.before) × Known p.old p.new (ReadFails ends reading)
StopsReading ends reading p fault.OutOfMemory =
    (p.after ≡ p.before) × Known p.old p.new (WantsMore reading Kept)
StopsReading ends reading p fault.TooLarge = ⊥
StopsReading ends reading p fault.Write = ⊥
StopsReading ends reading p fault.Rate = ⊥
StopsReading ends reading p f =
    (p.after ≡ p.before) × Known p.old p.new (λ text rest. FaultsRead reading text rest f)

-- nothing failed; if the bytes are known, they read as this value
abbrev pub ReadsAs : {X : Type 0} → Reading X → Passage → X → Type 0
ReadsAs reading p x =
    (p.after ≡ p.before) × Known p.old p.new (λ text rest. reading text ≡ Ok (x, rest))

-- the answer of a call
abbrev pub FileAnswers : {X Y : Type 0} → Endings X → (Y → X) → Reading X → Passage →
    Result Y FileFault → Type 0
FileAnswers ends view reading p (Ok y) = ReadsAs reading p (view y)
FileAnswers ends view reading p (Err f) = StopsReading ends reading p f
