-- Decodes the frames of a range of a file that the profile reads, and writes a line of each.
use Rattle.std.proofs.Common.{rules, ◌≡◌, inl, inr, length}
use Rattle.std.proofs.lemmas.Result.{err_from_is_err_and}
use Rattle.ffv1_unpack.proofs.FileChecked.{count_stops, done, none_told, telling_stops}
use Rattle.ffv1_unpack.proofs.OwnFaults.{line_checks, told_checks}
use Rattle.ffv1_unpack.proofs.FramesNoted.{noted_file}
use Rattle.ffv1_unpack.specs.Plays.{has_more}
use Rattle.ffv1_wire.specs.Passage.{passage}
use Rattle.ffv1_unpack.proofs.ReadAgain.{line_again, told_again}
use Rattle.ffv1_unpack.proofs.checking.check_range.Goals as goal

pub returns-in_err-player-clause-err : goal.returns-in_err-player-clause-err
returns-in_err-player-clause-err g c =
    let p = err_from_is_err_and c.from_residual.result c.from_residual.ensures.1 in
    rw (p.1, p.2) (inr (inl (rw c.tells_byte-byte.ensures at c.in_err-player.ensures.err)))

pub returns-in_err-count-clause-err : goal.returns-in_err-count-clause-err
returns-in_err-count-clause-err g c =
    let p = err_from_is_err_and c.from_residual-in_err-count.result
    c.from_residual-in_err-count.ensures.1 in
    rw (p.1, p.2)
    (telling_stops c.args.profile c.args.place c.args.range (g.R.ByteIn.remaining c.args.input.now)
    (g.R.ByteIn.remaining c.open_range.new.input) (g.R.ByteIn.remaining c.tell_frames.new.input)
    (g.W.ByteOut.contents c.args.output.now) (g.W.ByteOut.contents c.tell_frames.new.output)
    (g.W.ByteOut.contents c.args.output.now)
    (g.R.ByteIn.failures c.args.input.now) (g.R.ByteIn.failures c.open_range.new.input)
    (g.R.ByteIn.failures c.tell_frames.new.input)
    (g.W.ByteOut.failures c.args.output.now) (g.W.ByteOut.failures c.tell_frames.new.output)
    (g.W.ByteOut.failures c.args.output.now)
    c.in_ok-player.player.reader c.in_ok-player.player.decoder.accepted c.in_ok-player.ensures.ok
    c.in_ok-player.ensures.located c.in_err-count.field-0.0
    (rw c.tells_byte-byte.ensures at (rw c.in_ok-player.ensures.silent at c.in_err-count.ensures.err)))

pub returns-in_err-count-clause-own : goal.returns-in_err-count-clause-own
returns-in_err-count-clause-own g c =
    let p = err_from_is_err_and c.from_residual-in_err-count.result
    c.from_residual-in_err-count.ensures.1 in
    rw (p.1, p.2) (told_checks c.args.profile c.in_ok-player.player.reader
    (g.R.ByteIn.remaining c.args.input.now)
    (g.R.ByteIn.remaining c.open_range.new.input)
    c.in_err-count.field-0.0 c.in_ok-player.ensures.located
    c.in_ok-player.ensures.ok.within c.in_err-count.ensures.own)

pub returns-then-count-eq0-clause-err : goal.returns-then-count-eq0-clause-err
returns-then-count-eq0-clause-err g c =
    let told = rw c.in_ok-player.ensures.silent at c.in_ok-count.ensures.ok in
    let none : c.in_ok-count.count ≡ 0 = search rules in
    none_told c.args.profile c.args.place c.args.range (g.R.ByteIn.remaining c.args.input.now)
    (g.R.ByteIn.remaining c.open_range.new.input) (g.R.ByteIn.remaining c.tell_frames.new.input)
    (g.W.ByteOut.contents c.args.output.now) (g.W.ByteOut.contents c.tell_frames.new.output)
    (g.W.ByteOut.contents c.args.output.now)
    (g.R.ByteIn.failures c.args.input.now) (g.R.ByteIn.failures c.open_range.new.input)
    (g.R.ByteIn.failures c.tell_frames.new.input)
    (g.W.ByteOut.failures c.args.output.now) (g.W.ByteOut.failures c.tell_frames.new.output)
    (g.W.ByteOut.failures c.args.output.now)
    c.in_ok-player.player.reader c.in_ok-player.player.decoder.accepted c.in_ok-player.ensures.ok
    c.tell_frames.new.player.notes told.0 c.in_ok-count.count told.1 told.2 none

pub returns-in_err-write_count-clause-err : goal.returns-in_err-write_count-clause-err
returns-in_err-write_count-clause-err g c =
    let p = err_from_is_err_and c.from_residual-in_err-write_count.result
    c.from_residual-in_err-write_count.ensures.1 in
    let told = rw c.in_ok-player.ensures.silent at c.in_ok-count.ensures.ok in
    rw (p.1, p.2)
    (count_stops c.args.profile c.args.place c.args.range (g.R.ByteIn.remaining c.args.input.now)
    (g.R.ByteIn.remaining c.open_range.new.input) (g.R.ByteIn.remaining c.tell_frames.new.input)
    (g.W.ByteOut.contents c.args.output.now) (g.W.ByteOut.contents c.tell_frames.new.output)
    (g.W.ByteOut.contents c.write_count.new.output)
    (g.R.ByteIn.failures c.args.input.now) (g.R.ByteIn.failures c.open_range.new.input)
    (g.R.ByteIn.failures c.tell_frames.new.input)
    (g.W.ByteOut.failures c.args.output.now) (g.W.ByteOut.failures c.tell_frames.new.output)
    (g.W.ByteOut.failures c.write_count.new.output)
    c.in_ok-player.player.reader c.in_ok-player.player.decoder.accepted c.in_ok-player.ensures.ok
    c.tell_frames.new.player.notes told.0 c.in_ok-count.count told.1 told.2 c.in_err-write_count.field-0.0
    c.in_err-write_count.ensures)

pub returns-clause-ok : goal.returns-clause-ok
returns-clause-ok g c =
    let told = rw c.in_ok-player.ensures.silent at c.in_ok-count.ensures.ok in
    done c.args.profile c.args.place c.args.range (g.R.ByteIn.remaining c.args.input.now)
    (g.R.ByteIn.remaining c.open_range.new.input) (g.R.ByteIn.remaining c.tell_frames.new.input)
    (g.W.ByteOut.contents c.args.output.now) (g.W.ByteOut.contents c.tell_frames.new.output)
    (g.W.ByteOut.contents c.write_count.new.output)
    (g.R.ByteIn.failures c.args.input.now) (g.R.ByteIn.failures c.open_range.new.input)
    (g.R.ByteIn.failures c.tell_frames.new.input)
    (g.W.ByteOut.failures c.args.output.now) (g.W.ByteOut.failures c.tell_frames.new.output)
    (g.W.ByteOut.failures c.write_count.new.output)
    c.in_ok-player.player.reader c.in_ok-player.player.decoder.accepted c.in_ok-player.ensures.ok
    c.tell_frames.new.player.notes told.0 c.in_ok-count.count told.1 told.2 c.if-count-eq0.false
    c.in_ok-write_count.ensures.0 c.in_ok-write_count.ensures.1
    c.notes_after.result (λ room. c.notes_after.ensures.read (length told.0) told.1 room)
    (c.notes_after.ensures.unread (length told.0) told.1)
    (noted_file c.args.profile c.in_ok-player.player.reader (g.R.ByteIn.remaining c.args.input.now)
    (g.R.ByteIn.remaining c.open_range.new.input) (g.R.ByteIn.remaining c.tell_frames.new.input)
    (g.R.ByteIn.failures c.args.input.now) (g.R.ByteIn.failures c.open_range.new.input)
    (g.R.ByteIn.failures c.tell_frames.new.input) c.tell_frames.new.player.notes c.notes_after.result
    (has_more c.args.range.count (length told.0)) c.in_ok-player.ensures.located
    (c.in_ok-count.ensures.noted (length told.0) told.1)
    (λ room. c.notes_after.ensures.read (length told.0) told.1 room))

pub returns-in_err-count-clause-again : goal.returns-in_err-count-clause-again
returns-in_err-count-clause-again g c =
    let p = err_from_is_err_and c.from_residual-in_err-count.result
    c.from_residual-in_err-count.ensures.1 in
    rw (p.1, p.2) (told_again c.args.profile
    (g.R.AgainIn.begins c.args.input.now)
    (passage g.R.ByteIn.remaining g.R.ByteIn.failures c.args.input.now c.tell_frames.new.input)
    c.in_ok-player.player.reader (g.R.ByteIn.remaining c.open_range.new.input)
    c.in_err-count.field-0.0 c.in_err-count.ensures.own)

pub returns-in_err-write_count-clause-again : goal.returns-in_err-write_count-clause-again
returns-in_err-write_count-clause-again g c =
    let p = err_from_is_err_and c.from_residual-in_err-write_count.result
    c.from_residual-in_err-write_count.ensures.1 in
    rw (p.1, p.2) (line_again c.args.profile
    (g.R.AgainIn.begins c.args.input.now)
    (passage g.R.ByteIn.remaining g.R.ByteIn.failures c.args.input.now c.tell_frames.new.input)
    _ _ c.in_err-write_count.field-0.0 c.in_err-write_count.ensures)

pub returns-in_err-write_count-clause-own : goal.returns-in_err-write_count-clause-own
returns-in_err-write_count-clause-own g c =
    let p = err_from_is_err_and c.from_residual-in_err-write_count.result
    c.from_residual-in_err-write_count.ensures.1 in
    rw (p.1, p.2) (line_checks c.args.profile _ _ c.in_err-write_count.field-0.0 c.in_err-write_count.ensures)
