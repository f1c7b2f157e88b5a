-- Calls for a turn, of which some may come to the end of the input.
use Rattle.std.proofs.Common.{ℕ, List, Option, Result, Ok, Err, inl}
use Rattle.ffv1_wire.specs.Passage.{Passage}
use Rattle.ffv1_reads.specs.Reads.{Answers, Reading}
use Rattle.ffv1_reads.specs.declared.fault.FileFault.{FileFault}
use Rattle.ffv1_reads.proofs.Reading.{Goes}
use Rattle.ffv1_avi.specs.Internal.Ending.{AnswersOrNone}
use Rattle.ffv1_avi.specs.declared.place.Extent.TheVariants.{EveryRiff}
use Rattle.ffv1_avi.proofs.EndReadings.{none_last, refused_none}

pub answers_every : {X Y : Type 0} (view : Y → Option X) (reading : Reading (Option X)) (p : Passage) (result : Result Y FileFault) → Answers view reading p result → AnswersOrNone EveryRiff view reading p result
answers_every view reading p (Ok y) (same, read) = (same, inl read)
answers_every view reading p (Err f) why = refused_none EveryRiff reading p.old p.new p.before p.after f why

-- after other readings
pub every_last : {X Y : Type 0} {whole : Reading (Option X)} {old now : Option (List ℕ)} {before after : ℕ} (r : Reading (Option X)) (view : Y → Option X) (new : Option (List ℕ)) (last : ℕ) (result : Result Y FileFault) → Goes whole old before r now after → Answers view r (record { old = now; new = new; before = after; after = last }) result →
    AnswersOrNone EveryRiff view whole (record { old = old; new = new; before = before; after = last }) result
every_last r view new last result h answer = none_last EveryRiff r view new last result h (answers_every view r _ result answer)
