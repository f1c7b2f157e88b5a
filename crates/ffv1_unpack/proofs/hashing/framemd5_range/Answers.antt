-- Decodes the frames of a range of a file that the profile reads, and writes of their pictures what
-- `framemd5` writes.
use Rattle.std.proofs.Common.{rules, ◌≡◌, length}
use Rattle.std.proofs.lemmas.Result.{err_from_is_err_and}
use Rattle.ffv1_unpack.specs.FrameMd5.{md5_from}
use Rattle.ffv1_unpack.proofs.RangePlayed.{lacks_range, range_done, range_none, range_stops}
use Rattle.ffv1_unpack.proofs.OwnFaults.{told_checks}
use Rattle.ffv1_unpack.proofs.FramesNoted.{noted_file}
use Rattle.ffv1_unpack.specs.Plays.{has_more}
use Rattle.ffv1_wire.specs.Passage.{passage}
use Rattle.ffv1_unpack.proofs.ReadAgain.{told_again}
use Rattle.ffv1_unpack.proofs.hashing.framemd5_range.Goals as goal

pub returns-in_err-player-clause-err : goal.returns-in_err-player-clause-err
returns-in_err-player-clause-err g c =
    let p = err_from_is_err_and c.from_residual.result c.from_residual.ensures.1 in
    let i = g.R.ByteIn.remaining c.args.input.now in
    let o = g.W.ByteOut.contents c.args.output.now in
    let n = g.W.ByteOut.failures c.args.output.now in
    rw (p.1, p.2)
    (lacks_range c.args.profile c.args.range (md5_from c.args.range.first) i
    (g.R.ByteIn.remaining c.open_range.new.input) i o o
    (g.R.ByteIn.failures c.args.input.now) (g.R.ByteIn.failures c.open_range.new.input)
    (g.R.ByteIn.failures c.args.input.now) n n c.in_err-player.field-0.0
    c.in_err-player.ensures.err)

pub returns-in_err-count-clause-err : goal.returns-in_err-count-clause-err
returns-in_err-count-clause-err g c =
    let p = err_from_is_err_and c.from_residual-in_err-count.result
    c.from_residual-in_err-count.ensures.1 in
    rw (p.1, p.2)
    (range_stops c.args.profile c.args.range (md5_from c.args.range.first)
    (g.R.ByteIn.remaining c.args.input.now) (g.R.ByteIn.remaining c.open_range.new.input)
    (g.R.ByteIn.remaining c.write_frames.new.input)
    (g.W.ByteOut.contents c.args.output.now) (g.W.ByteOut.contents c.write_frames.new.output)
    (g.R.ByteIn.failures c.args.input.now) (g.R.ByteIn.failures c.open_range.new.input)
    (g.R.ByteIn.failures c.write_frames.new.input)
    (g.W.ByteOut.failures c.args.output.now) (g.W.ByteOut.failures c.write_frames.new.output)
    c.in_ok-player.player.reader c.in_ok-player.player.decoder.accepted c.in_ok-player.ensures.ok
    c.in_err-count.field-0.0 c.in_err-count.ensures.err)

pub returns-in_err-count-clause-own : goal.returns-in_err-count-clause-own
returns-in_err-count-clause-own g c =
    let p = err_from_is_err_and c.from_residual-in_err-count.result
    c.from_residual-in_err-count.ensures.1 in
    rw (p.1, p.2) (told_checks c.args.profile c.in_ok-player.player.reader
    (g.R.ByteIn.remaining c.args.input.now)
    (g.R.ByteIn.remaining c.open_range.new.input)
    c.in_err-count.field-0.0 c.in_ok-player.ensures.located
    c.in_ok-player.ensures.ok.within c.in_err-count.ensures.own)

pub returns-then-count-eq0-clause-err : goal.returns-then-count-eq0-clause-err
returns-then-count-eq0-clause-err g c =
    let all = c.in_ok-count.ensures.ok in
    let none : c.in_ok-count.count ≡ 0 = search rules in
    range_none c.args.profile c.args.range (md5_from c.args.range.first)
    (g.R.ByteIn.remaining c.args.input.now) (g.R.ByteIn.remaining c.open_range.new.input)
    (g.R.ByteIn.remaining c.write_frames.new.input)
    (g.W.ByteOut.contents c.args.output.now) (g.W.ByteOut.contents c.write_frames.new.output)
    (g.R.ByteIn.failures c.args.input.now) (g.R.ByteIn.failures c.open_range.new.input)
    (g.R.ByteIn.failures c.write_frames.new.input)
    (g.W.ByteOut.failures c.args.output.now) (g.W.ByteOut.failures c.write_frames.new.output)
    c.in_ok-player.player.reader c.in_ok-player.player.decoder.accepted c.in_ok-player.ensures.ok
    c.write_frames.new.player.notes all.0 c.in_ok-count.count all.1 all.2 none

pub returns-clause-ok : goal.returns-clause-ok
returns-clause-ok g c =
    let all = c.in_ok-count.ensures.ok in
    range_done c.args.profile c.args.range (md5_from c.args.range.first)
    (g.R.ByteIn.remaining c.args.input.now) (g.R.ByteIn.remaining c.open_range.new.input)
    (g.R.ByteIn.remaining c.write_frames.new.input)
    (g.W.ByteOut.contents c.args.output.now) (g.W.ByteOut.contents c.write_frames.new.output)
    (g.R.ByteIn.failures c.args.input.now) (g.R.ByteIn.failures c.open_range.new.input)
    (g.R.ByteIn.failures c.write_frames.new.input)
    (g.W.ByteOut.failures c.args.output.now) (g.W.ByteOut.failures c.write_frames.new.output)
    c.in_ok-player.player.reader c.in_ok-player.player.decoder.accepted c.in_ok-player.ensures.ok
    c.write_frames.new.player.notes all.0 c.in_ok-count.count all.1 all.2 c.if-count-eq0.false
    c.notes_after.result (λ room. c.notes_after.ensures.read (length all.0) all.1 room)
    (c.notes_after.ensures.unread (length all.0) all.1)
    (noted_file c.args.profile c.in_ok-player.player.reader (g.R.ByteIn.remaining c.args.input.now)
    (g.R.ByteIn.remaining c.open_range.new.input) (g.R.ByteIn.remaining c.write_frames.new.input)
    (g.R.ByteIn.failures c.args.input.now) (g.R.ByteIn.failures c.open_range.new.input)
    (g.R.ByteIn.failures c.write_frames.new.input) c.write_frames.new.player.notes c.notes_after.result
    (has_more c.args.range.count (length all.0)) c.in_ok-player.ensures.located
    (c.in_ok-count.ensures.noted (length all.0) all.1)
    (λ room. c.notes_after.ensures.read (length all.0) all.1 room))

pub returns-in_err-count-clause-again : goal.returns-in_err-count-clause-again
returns-in_err-count-clause-again g c =
    let p = err_from_is_err_and c.from_residual-in_err-count.result
    c.from_residual-in_err-count.ensures.1 in
    rw (p.1, p.2) (told_again c.args.profile
    (g.R.AgainIn.begins c.args.input.now)
    (passage g.R.ByteIn.remaining g.R.ByteIn.failures c.args.input.now c.write_frames.new.input)
    c.in_ok-player.player.reader (g.R.ByteIn.remaining c.open_range.new.input)
    c.in_err-count.field-0.0 c.in_err-count.ensures.own)
