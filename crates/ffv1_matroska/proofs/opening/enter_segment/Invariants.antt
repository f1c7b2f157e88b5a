use Rattle.std.specs.Prelude.{◌-◌, ℕ}
use Rattle.ffv1_reads.specs.Offsets.{ReadsWhole}
use Rattle.ffv1_reads.proofs.Reading.{Goes}
use Rattle.ffv1_matroska.specs.Offsets.{BeforeSegment, CountsOn, spot_taken}
use Rattle.ffv1_matroska.specs.Opening.{most_elements, segment_entered, segment_up_to}
use Rattle.ffv1_matroska.proofs.SpotReadings.{Counted}
use Rattle.ffv1_matroska.proofs.opening.enter_segment.Given as goal

abbrev pub invariant-loop-element : goal.invariant-loop-element
invariant-loop-element g l =
    Goes segment_entered (g.R.ByteIn.remaining l.initial.input)
    (g.R.ByteIn.failures l.initial.input) (segment_up_to (18446744073709551615 - l._element))
    (g.R.ByteIn.remaining l.input) (g.R.ByteIn.failures l.input)
    × (n : ℕ) × ReadsWhole spot_taken (BeforeSegment most_elements)
    (g.R.ByteIn.remaining l.initial.input) (g.R.ByteIn.remaining l.input)
    (BeforeSegment (18446744073709551615 - l._element)) n
    × CountsOn l.initial.offset l.offset n
    × Counted segment_entered (g.R.ByteIn.remaining l.initial.input)
    (segment_up_to (18446744073709551615 - l._element)) (g.R.ByteIn.remaining l.input) n
