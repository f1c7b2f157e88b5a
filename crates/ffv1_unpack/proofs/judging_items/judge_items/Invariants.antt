use Rattle.std.proofs.Common.{◌≡◌, ◌-◌, false}
use Rattle.ffv1_matroska.proofs.CuedTurns.{CuedSoFar}
use Rattle.ffv1_unpack.specs.ItemsEnd.{course_left, course_up_to, cued_left, cued_up_to}
use Rattle.ffv1_wire.specs.Passage.{passage}
use Rattle.ffv1_files.specs.Items.{course_of}
use Rattle.ffv1_files.specs.Places.{container_of}
use Rattle.ffv1_files.specs.declared.container.Container.TheVariants as container
use Rattle.ffv1_unpack.specs.Internal.Plainly.{is_plain}
use Rattle.ffv1_unpack.proofs.ItemsCourse.{CourseSoFar}
use Rattle.ffv1_unpack.proofs.ItemsJudged.{ItemsSo}
use Rattle.ffv1_unpack.proofs.judging_items.judge_items.Given as goal

abbrev pub invariant-loop-item : goal.invariant-loop-item
invariant-loop-item g l =
    (l.player.reader ≡ l.fn.player.reader)
    × (l.player.decoder.accepted ≡ l.fn.player.decoder.accepted)
    × ItemsSo l.place l.fn.player.decoder.accepted l.fn.player.reader.place
    (course_of l.fn.player.reader)
    (passage g.R.ByteIn.remaining g.R.ByteIn.failures l.initial.input l.input)
    (passage g.W.ByteOut.contents g.W.ByteOut.failures l.initial.output l.output) l._item
    l.judging.counts l.fn.player.reader.place l.judging.course
    × CuedSoFar (cued_left l.fn.player.reader.place (course_of l.fn.player.reader) l.fn.player.cued)
    (cued_up_to (18446744073709551615 - l._item) l.fn.player.reader.place l.judging.course
    l.player.cued) (g.R.ByteIn.remaining l.initial.input) (g.R.ByteIn.remaining l.input)
    × (is_plain l.judging.course ≡ false)
    × (container_of l.fn.player.reader.place ≡ container.Avi →
    CourseSoFar (course_left l.fn.player.reader.place (course_of l.fn.player.reader))
    (course_up_to (18446744073709551615 - l._item) l.fn.player.reader.place l.judging.course)
    (g.R.ByteIn.remaining l.initial.input) (g.R.ByteIn.remaining l.input))
