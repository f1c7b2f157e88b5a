-- Writes the line of the place where a frame is refused, if it is asked for.
use Rattle.ffv1_wire.specs.Passage.{passage}
use Rattle.ffv1_codec.specs.Answer.{decided_by}
use Rattle.ffv1_unpack.specs.FrameLines.{place_line}
use Rattle.ffv1_unpack.proofs.FrameDecoded.{line_written}
use Rattle.ffv1_unpack.proofs.telling.tell_place.Goals as goal

pub returns : goal.returns
returns g c =
    rw c.if-not-place.false
    (line_written (place_line c.args.number c.args.fault (decided_by c.args.decoder.now.tally))
    (passage g.W.ByteOut.contents g.W.ByteOut.failures c.args.output.now
    c.write_place-told.new.output) c.write_place-told.result
    (rw c.decisions.ensures at c.write_place-told.ensures))
