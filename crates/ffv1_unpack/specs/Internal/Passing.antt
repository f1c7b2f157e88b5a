-- Payloads of a file that are read and not decoded.
use Rattle.std.specs.Prelude.{◌≡◌, ◌⊎◌, ℕ, ◌<◌, List, length, Result, Ok, Err}
use Rattle.ffv1_wire.specs.Passage.{Passage}
use Rattle.ffv1_wire.specs.Failures.{one_more}
use Rattle.ffv1_files.specs.Places.{Place}
use Rattle.ffv1_files.specs.declared.notes.Notes.{Notes}
use Rattle.ffv1_reads.specs.Known.{Known}
use Rattle.ffv1_video.specs.declared.fault.Fault.{Fault}
use Rattle.ffv1_video.specs.declared.fault.Fault.TheVariants as fault
use Rattle.ffv1_video.specs.Faults.{Cause, cause_of}
use Rattle.ffv1_video.specs.Faults.Cause.{Reading, Writing, Memory, Content}
use Rattle.ffv1_unpack.specs.Plays.{HasThen, NextHasFault, NextOver, NextPayloadLacks}
use Rattle.ffv1_unpack.specs.Plays.{NextReadFails}
use Rattle.ffv1_unpack.specs.Stream.{ReadsFrames, last_bytes}

-- from this place of the file these were read, up to that place
pub record Passes (from to : Place) (input : Passage) (payloads : List (List ℕ)) : Type 0 where
  pub read : Known input.old input.new (λ text rest. ReadsFrames from text payloads to rest)
  pub kept : input.after ≡ input.before

-- so many, fewer than are to be passed, and then this stands
pub record PassesThen (first : ℕ) (from : Place) (input : Passage) (passed : ℕ)
    (Next : Place → List ℕ → List ℕ → Type 0) : Type 0 where
  pub before : List (List ℕ)
  pub counted : length before ≡ passed
  pub few : passed < first
  pub has : Known input.old input.new (HasThen from before Next)

-- why no further one is passed, by the cause
abbrev pub PassingStopsBy : ℕ → Place → Passage → ℕ → Fault → Cause → Type 0
PassingStopsBy first from input passed f Reading =
    (input.after ≡ one_more input.before) × PassesThen first from input passed NextReadFails
PassingStopsBy first from input passed f Writing = ⊥
PassingStopsBy first from input passed f Memory =
    (input.after ≡ input.before) × PassesThen first from input passed NextPayloadLacks
PassingStopsBy first from input passed f Content = (input.after ≡ input.before)
    × (PassesThen first from input passed (NextHasFault f)
    ⊎ ((f ≡ fault.NoFrames)
    × (notes : Notes) × PassesThen first from input passed (NextOver notes)))

-- what passing so many answers
abbrev pub PassAnswers : ℕ → Place → Place → Passage → ℕ → Result (Unit {0}) Fault → Type 0
PassAnswers first from to input passed (Ok done) =
    (payloads : List (List ℕ)) × (length payloads ≡ first) × Passes from to input payloads
PassAnswers first from to input passed (Err f) =
    PassingStopsBy first from input passed f (cause_of f)

-- the same, and the last one of them that has bytes was kept; nothing is said of that if they end
abbrev pub PassKeeps : ℕ → Place → Place → Passage → ℕ → List ℕ → Result (Unit {0}) Fault → Type 0
PassKeeps first from to input passed kept (Ok done) =
    (payloads : List (List ℕ)) × (length payloads ≡ first) × Passes from to input payloads
    × (kept ≡ last_bytes payloads)
PassKeeps first from to input passed kept (Err f) =
    PassingStopsBy first from input passed f (cause_of f)
