-- What writing a part of a line answers.
use Rattle.std.specs.Prelude.{◌≡◌, ℕ, List}
use Rattle.std.specs.Prelude.{Result, Ok, Err}
use Rattle.std.specs.Io.KnownBytes.{Appends}
use Rattle.ffv1_wire.specs.Failures.{one_more}
use Rattle.ffv1_wire.specs.Passage.{Passage}
use Rattle.ffv1_wire.specs.Writes.{AppendsBeginning}

-- a part of a line was written; or a write failed, which was counted, after a beginning of it
abbrev pub WritesPart : {E : Type 0} → List ℕ → Passage → Result (Unit {0}) E → Type 0
WritesPart text p (Ok done) = (p.after ≡ p.before) × Appends p.old p.new text
WritesPart text p (Err failed) = (p.after ≡ one_more p.before) × AppendsBeginning p.old p.new text
