use Rattle.std.proofs.Common.{◌≡◌, ◌-◌, None, false, true}
use Rattle.ffv1_matroska.proofs.CuedTurns.{CuedSoFar}
use Rattle.ffv1_unpack.specs.ItemsEnd.{course_left, course_up_to, cued_left, cued_up_to}
use Rattle.ffv1_wire.specs.Passage.{passage}
use Rattle.ffv1_files.specs.Items.{course_of}
use Rattle.ffv1_files.specs.Places.{container_of}
use Rattle.ffv1_files.specs.declared.container.Container.TheVariants as container
use Rattle.ffv1_unpack.specs.Internal.Located.{StaysReached}
use Rattle.ffv1_unpack.specs.Internal.Opens.{stream_of}
use Rattle.ffv1_unpack.specs.Internal.Plainly.{is_plain}
use Rattle.ffv1_unpack.proofs.ItemsCourse.{CourseSoFar}
use Rattle.ffv1_unpack.specs.Unpacked.{is_ppm_stream}
use Rattle.ffv1_unpack.proofs.SalvageSteps.{SalvagedTo}
use Rattle.ffv1_unpack.proofs.salvaging.salvage_items.Given as goal

abbrev pub invariant-loop-item : goal.invariant-loop-item
invariant-loop-item g l =
    let s = stream_of l.fn.player.reader l.fn.player.decoder.accepted in
    (l.player.reader.fault ≡ None)
    × (l.player.decoder.accepted ≡ l.fn.player.decoder.accepted)
    × (container_of l.player.reader.place ≡ container_of l.fn.player.reader.place)
    × (l.salvage.ppm ≡ is_ppm_stream s)
    × SalvagedTo g.P.PictureOut.ready l.output s l.fn.player.reader.place
    (course_of l.fn.player.reader)
    (passage g.R.ByteIn.remaining g.R.ByteIn.failures l.initial.input l.input)
    (passage g.L.ByteOut.contents g.L.ByteOut.failures l.initial.lines l.lines)
    (passage g.P.PictureOut.contents g.P.PictureOut.failures l.initial.output l.output) l._item
    l.salvage.counts l.salvage.header l.salvage.last.items l.player.reader.place l.salvage.course
    × (is_plain (course_of l.fn.player.reader) ≡ true →
    StaysReached l.fn.player.reader l.player.reader
    (passage g.R.ByteIn.remaining g.R.ByteIn.failures l.initial.input l.input))
    × (is_plain (course_of l.fn.player.reader) ≡ false → l.player.reader ≡ l.fn.player.reader)
    × CuedSoFar (cued_left l.fn.player.reader.place (course_of l.fn.player.reader) l.fn.player.cued)
    (cued_up_to (18446744073709551615 - l._item) l.player.reader.place l.salvage.course
    l.player.cued) (g.R.ByteIn.remaining l.initial.input) (g.R.ByteIn.remaining l.input)
    × g.P.PictureOut.fits s l.salvage.last.items l.output
    × (is_plain l.salvage.course ≡ is_plain (course_of l.fn.player.reader))
    × (container_of l.fn.player.reader.place ≡ container.Avi →
    CourseSoFar (course_left l.fn.player.reader.place (course_of l.fn.player.reader))
    (course_up_to (18446744073709551615 - l._item) l.player.reader.place l.salvage.course)
    (g.R.ByteIn.remaining l.initial.input) (g.R.ByteIn.remaining l.input))
