-- Decodes all frames of a file that the profile reads, and writes a line of each as soon as it is
-- decoded, and at the end how many there were.
use Rattle.std.proofs.lemmas.Result.{IfErr-weaker, IfOk-weaker}
use Rattle.ffv1_wire.specs.Passage.{passage}
use Rattle.ffv1_unpack.specs.Check.{CheckDone, CheckRangeDone, CheckRangeStops, CheckStops}
use Rattle.ffv1_unpack.specs.Check.{check_text}
use Rattle.ffv1_unpack.specs.Ranges.{all_frames}
use Rattle.ffv1_unpack.proofs.FileRead.{holds_payloads}
use Rattle.ffv1_unpack.proofs.WholeRange.{check_file, plays_whole}
use Rattle.ffv1_unpack.proofs.checking.check.Goals as goal

pub returns-clause-ok : goal.returns-clause-ok
returns-clause-ok g c =
    let input = passage g.R.ByteIn.remaining g.R.ByteIn.failures c.args.input.now
    c.check_range.new.input in
    let output = passage g.W.ByteOut.contents g.W.ByteOut.failures c.args.output.now
    c.check_range.new.output in
    IfOk-weaker c.check_range.result
    (CheckRangeDone c.args.profile c.args.place all_frames input output)
    (CheckDone c.args.profile c.args.place input output)
    (plays_whole (holds_payloads c.frames_come_in_turn.ensures
    c.what_is_read_is_a_file.ensures.first c.what_is_read_is_a_file.ensures.whole)
    c.args.profile (λ s frames. check_text s.accepted.configuration frames) input output)
    c.check_range.ensures.ok

pub returns-clause-err : goal.returns-clause-err
returns-clause-err g c =
    let input = passage g.R.ByteIn.remaining g.R.ByteIn.failures c.args.input.now
    c.check_range.new.input in
    let output = passage g.W.ByteOut.contents g.W.ByteOut.failures c.args.output.now
    c.check_range.new.output in
    IfErr-weaker c.check_range.result (CheckRangeStops c.args.profile c.args.place all_frames input
    output)
    (CheckStops c.args.profile c.args.place input output)
    (check_file c.args.profile c.args.place (g.R.ByteIn.remaining c.args.input.now)
    (g.R.ByteIn.remaining c.check_range.new.input)
    (g.W.ByteOut.contents c.args.output.now) (g.W.ByteOut.contents c.check_range.new.output)
    (g.R.ByteIn.failures c.args.input.now) (g.R.ByteIn.failures c.check_range.new.input)
    (g.W.ByteOut.failures c.args.output.now) (g.W.ByteOut.failures c.check_range.new.output))
    c.check_range.ensures.err
