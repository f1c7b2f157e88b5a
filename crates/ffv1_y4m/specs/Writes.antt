-- What a call on a writer of pictures answers, and what it leaves.
use Rattle.std.specs.Prelude.{◌≡◌, ℕ, Bool, true, false, List, Result, Ok, Err}
use Rattle.std.specs.Io.KnownBytes.{Appends}
use Rattle.ffv1_wire.specs.Failures.{one_more}
use Rattle.ffv1_wire.specs.Passage.{Passage}
use Rattle.ffv1_wire.specs.Writes.{AppendsBeginning}
use Rattle.ffv1_y4m.specs.declared.head.VideoHead.{VideoHead}
use Rattle.ffv1_y4m.specs.declared.fault.Fault.{Fault}
use Rattle.ffv1_y4m.specs.declared.fault.Fault.TheVariants as fault

-- a writer of YUV4MPEG2: its head, the depth, whether the header is written, and whether a write
-- has failed
pub record Y4mWriting : Type 0 where
  pub head : VideoHead
  pub depth : ℕ
  pub begun : Bool
  pub failed : Bool

-- all of the text is written; or a write failed, which was counted, and a beginning of the text is
-- written and not all
abbrev pub Writes : List ℕ → Passage → Result (Unit {0}) Fault → Type 0
Writes text p (Ok x) = Appends p.old p.new text × (p.after ≡ p.before)
Writes text p (Err f) =
    (f ≡ fault.Write) × AppendsBeginning p.old p.new text × (p.after ≡ one_more p.before)

-- a call on a writer of which a write may have failed: then it answers so again, and writes nothing
abbrev pub NextWrites : Bool → List ℕ → Passage → Result (Unit {0}) Fault → Type 0
NextWrites true text p r = (r ≡ Err fault.Write) × (p.new ≡ p.old) × (p.after ≡ p.before)
NextWrites false text p r = Writes text p r

-- the writer after a call
abbrev pub written_by : Y4mWriting → Result (Unit {0}) Fault → Y4mWriting
written_by w (Ok x) = record w { begun = true }
written_by w (Err f) = record w { failed = true }
