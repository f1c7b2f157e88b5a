-- Decodes all frames of a file that the profile reads, and writes of their pictures what FFmpeg's
-- `framemd5` writes of raw video, but for the line `#software`.
use Rattle.std.proofs.lemmas.Result.{IfErr-weaker, IfOk-weaker}
use Rattle.ffv1_wire.specs.Passage.{passage}
use Rattle.ffv1_unpack.specs.FrameMd5.{Md5Done, Md5RangeDone, Md5RangeStops, Md5Stops, frames_md5}
use Rattle.ffv1_unpack.specs.Ranges.{all_frames}
use Rattle.ffv1_unpack.proofs.FileRead.{holds_payloads}
use Rattle.ffv1_unpack.proofs.WholeRange.{file_stops, plays_whole}
use Rattle.ffv1_unpack.proofs.hashing.framemd5.Goals as goal

pub returns-clause-ok : goal.returns-clause-ok
returns-clause-ok g c =
    let input = passage g.R.ByteIn.remaining g.R.ByteIn.failures c.args.input.now
    c.framemd5_range.new.input in
    let output = passage g.W.ByteOut.contents g.W.ByteOut.failures c.args.output.now
    c.framemd5_range.new.output in
    IfOk-weaker c.framemd5_range.result (Md5RangeDone c.args.profile all_frames input output)
    (Md5Done c.args.profile input output)
    (plays_whole (holds_payloads c.frames_come_in_turn.ensures
    c.what_is_read_is_a_file.ensures.first c.what_is_read_is_a_file.ensures.whole)
    c.args.profile frames_md5 input output) c.framemd5_range.ensures.ok

pub returns-clause-err : goal.returns-clause-err
returns-clause-err g c =
    let input = passage g.R.ByteIn.remaining g.R.ByteIn.failures c.args.input.now
    c.framemd5_range.new.input in
    let output = passage g.W.ByteOut.contents g.W.ByteOut.failures c.args.output.now
    c.framemd5_range.new.output in
    IfErr-weaker c.framemd5_range.result (Md5RangeStops c.args.profile all_frames input output)
    (Md5Stops c.args.profile input output)
    (file_stops c.args.profile frames_md5 (g.R.ByteIn.remaining c.args.input.now)
    (g.R.ByteIn.remaining c.framemd5_range.new.input)
    (g.W.ByteOut.contents c.args.output.now) (g.W.ByteOut.contents c.framemd5_range.new.output)
    (g.R.ByteIn.failures c.args.input.now) (g.R.ByteIn.failures c.framemd5_range.new.input)
    (g.W.ByteOut.failures c.args.output.now) (g.W.ByteOut.failures c.framemd5_range.new.output))
    c.framemd5_range.ensures.err
