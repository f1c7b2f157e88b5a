-- What a call that writes answers.
use Rattle.std.specs.Prelude.{◌≡◌, ℕ, List, Option, Result, Ok, Err}
use Rattle.std.specs.Io.KnownBytes.{Appends}
use Rattle.ffv1_wire.specs.Failures.{one_more}
use Rattle.ffv1_wire.specs.Passage.{Passage}
use Rattle.ffv1_wire.specs.Writes.{AppendsBeginning}
use Rattle.ffv1_reads.specs.declared.fault.FileFault.{FileFault}
use Rattle.ffv1_reads.specs.declared.fault.FileFault.TheVariants as fault

-- why a call was refused: a write failed, which was counted, and a beginning of the bytes was
-- written
abbrev pub Stopped : Option (List ℕ) → Option (List ℕ) → ℕ → ℕ → List ℕ → FileFault → Type 0
Stopped old new failures after bytes fault.Write =
    (after ≡ one_more failures) × AppendsBeginning old new bytes
Stopped old new failures after bytes f = ⊥

-- these bytes were written
abbrev pub Writes : Passage → List ℕ → Result (Unit {0}) FileFault → Type 0
Writes p bytes (Ok u) = (p.after ≡ p.before) × Appends p.old p.new bytes
Writes p bytes (Err f) = Stopped p.old p.new p.before p.after bytes f
