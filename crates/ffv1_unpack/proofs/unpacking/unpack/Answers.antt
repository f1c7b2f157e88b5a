-- Decodes all frames of a file that the profile reads, and writes their pictures: those of YCbCr as
-- YUV4MPEG2 in its canonical form, and those of RCT as PPM, one image after the other, each of the
-- depth that the record says.
use Rattle.std.proofs.lemmas.Result.{IfErr-weaker, IfOk-weaker}
use Rattle.ffv1_wire.specs.Passage.{passage}
use Rattle.ffv1_unpack.specs.Ranges.{all_frames}
use Rattle.ffv1_unpack.specs.Unpack.{UnpackDone, UnpackRangeDone, UnpackRangeStops, UnpackStops}
use Rattle.ffv1_unpack.proofs.FileRead.{holds_payloads}
use Rattle.ffv1_unpack.proofs.WholeRange.{unpack_file, unpacks_whole}
use Rattle.ffv1_unpack.proofs.unpacking.unpack.Goals as goal

pub returns-clause-ok : goal.returns-clause-ok
returns-clause-ok g c =
    let input = passage g.R.ByteIn.remaining g.R.ByteIn.failures c.args.input.now
    c.unpack_range.new.input in
    let output = passage g.W.ByteOut.contents g.W.ByteOut.failures c.args.output
    c.unpack_range.result.0 in
    IfOk-weaker c.unpack_range.result.1
    (λ told. UnpackRangeDone c.args.profile all_frames input output told.0 told.1)
    (λ told. UnpackDone c.args.profile input output told.0 told.1)
    (unpacks_whole (holds_payloads c.frames_come_in_turn.ensures
    c.what_is_read_is_a_file.ensures.first c.what_is_read_is_a_file.ensures.whole)
    c.args.profile input output) c.unpack_range.ensures.ok

pub returns-clause-err : goal.returns-clause-err
returns-clause-err g c =
    let input = passage g.R.ByteIn.remaining g.R.ByteIn.failures c.args.input.now
    c.unpack_range.new.input in
    let output = passage g.W.ByteOut.contents g.W.ByteOut.failures c.args.output
    c.unpack_range.result.0 in
    IfErr-weaker c.unpack_range.result.1 (UnpackRangeStops c.args.profile all_frames input output)
    (UnpackStops c.args.profile input output)
    (unpack_file c.args.profile (g.R.ByteIn.remaining c.args.input.now)
    (g.R.ByteIn.remaining c.unpack_range.new.input)
    (g.W.ByteOut.contents c.args.output) (g.W.ByteOut.contents c.unpack_range.result.0)
    (g.R.ByteIn.failures c.args.input.now) (g.R.ByteIn.failures c.unpack_range.new.input)
    (g.W.ByteOut.failures c.args.output) (g.W.ByteOut.failures c.unpack_range.result.0))
    c.unpack_range.ensures.err
