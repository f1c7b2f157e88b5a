-- What a call answers by how far a file is read.
use Rattle.std.specs.Prelude.{Option, Result}
use Rattle.ffv1_wire.specs.Passage.{Passage}
use Rattle.ffv1_reads.specs.declared.fault.FileFault.{FileFault}
use Rattle.ffv1_avi.specs.declared.place.Extent.{Extent}
use Rattle.ffv1_avi.specs.declared.place.Extent.TheVariants.{FirstMovi, EveryRiff}
use Rattle.ffv1_avi.specs.declared.place.Place.{Place}
use Rattle.ffv1_reads.specs.Ends.{AnswersOrNone}
use Rattle.ffv1_avi.specs.Places.{extent_of}
use Rattle.ffv1_reads.specs.Reads.{Answers, Reading}

-- the answer of a call by how far a file is read: if every RIFF is, the end of the input may be the
-- answer that there is nothing more
abbrev pub AnswersBy : {X Y : Type 0} → Extent → (Y → Option X) → Reading (Option X) → Passage →
    Result Y FileFault → Type 0
AnswersBy FirstMovi view reading p r = Answers view reading p r
AnswersBy EveryRiff view reading p r = AnswersOrNone view reading p r

-- the answer of a call from here on
abbrev pub AnswersFrom : {X Y : Type 0} → Place → (Y → Option X) → Reading (Option X) → Passage →
    Result Y FileFault → Type 0
AnswersFrom place view reading p r = AnswersBy (extent_of place) view reading p r
