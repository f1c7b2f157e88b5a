-- Judges the frames of a range of a file that the profile reads, and writes the lines of each.
use Rattle.std.proofs.Common.{rules, ◌≡◌, inl, length}
use Rattle.std.proofs.lemmas.Result.{err_from_is_err_and}
use Rattle.ffv1_unpack.proofs.FileJudged.{all_done, count_stops, judging_stops, none_judged}
use Rattle.ffv1_unpack.proofs.OwnFaults.{line_checks, told_checks}
use Rattle.ffv1_unpack.proofs.FramesNoted.{noted_file}
use Rattle.ffv1_unpack.specs.Plays.{has_more}
use Rattle.ffv1_wire.specs.Passage.{passage}
use Rattle.ffv1_unpack.proofs.ReadAgain.{line_again, told_again}
use Rattle.ffv1_unpack.proofs.checking.check_all_range.Goals as goal

pub returns-in_err-player-clause-err : goal.returns-in_err-player-clause-err
returns-in_err-player-clause-err g c =
    let p = err_from_is_err_and c.from_residual.result c.from_residual.ensures.1 in
    rw (p.1, p.2) ((inl (rw c.tells_byte-byte.ensures at c.in_err-player.ensures.err)))

pub returns-in_err-counts-clause-err : goal.returns-in_err-counts-clause-err
returns-in_err-counts-clause-err g c =
    let p = err_from_is_err_and c.from_residual-in_err-counts.result
    c.from_residual-in_err-counts.ensures.1 in
    rw (p.1, p.2)
    (judging_stops c.args.profile c.args.place c.args.range (g.R.ByteIn.remaining c.args.input.now)
    (g.R.ByteIn.remaining c.open_range.new.input) (g.R.ByteIn.remaining c.judge_frames.new.input)
    (g.W.ByteOut.contents c.args.output.now) (g.W.ByteOut.contents c.judge_frames.new.output)
    (g.W.ByteOut.contents c.args.output.now)
    (g.R.ByteIn.failures c.args.input.now) (g.R.ByteIn.failures c.open_range.new.input)
    (g.R.ByteIn.failures c.judge_frames.new.input)
    (g.W.ByteOut.failures c.args.output.now) (g.W.ByteOut.failures c.judge_frames.new.output)
    (g.W.ByteOut.failures c.args.output.now)
    c.in_ok-player.player.reader c.in_ok-player.player.decoder.accepted c.in_ok-player.ensures.ok
    c.in_ok-player.ensures.located c.in_err-counts.field-0.0
    (rw c.tells_byte-byte.ensures at (rw c.in_ok-player.ensures.silent at c.in_err-counts.ensures.err)))

pub returns-in_err-counts-clause-own : goal.returns-in_err-counts-clause-own
returns-in_err-counts-clause-own g c =
    let p = err_from_is_err_and c.from_residual-in_err-counts.result
    c.from_residual-in_err-counts.ensures.1 in
    rw (p.1, p.2) (told_checks c.args.profile c.in_ok-player.player.reader
    (g.R.ByteIn.remaining c.args.input.now)
    (g.R.ByteIn.remaining c.open_range.new.input)
    c.in_err-counts.field-0.0 c.in_ok-player.ensures.located
    c.in_ok-player.ensures.ok.within c.in_err-counts.ensures.own)

pub returns-then-counts-eq0-clause-err : goal.returns-then-counts-eq0-clause-err
returns-then-counts-eq0-clause-err g c =
    let told = rw c.in_ok-player.ensures.silent at c.in_ok-counts.ensures.ok in
    let none : c.in_ok-counts.counts.frames ≡ 0 = search rules in
    none_judged c.args.profile c.args.place c.args.range (g.R.ByteIn.remaining c.args.input.now)
    (g.R.ByteIn.remaining c.open_range.new.input) (g.R.ByteIn.remaining c.judge_frames.new.input)
    (g.W.ByteOut.contents c.args.output.now) (g.W.ByteOut.contents c.judge_frames.new.output)
    (g.W.ByteOut.contents c.args.output.now)
    (g.R.ByteIn.failures c.args.input.now) (g.R.ByteIn.failures c.open_range.new.input)
    (g.R.ByteIn.failures c.judge_frames.new.input)
    (g.W.ByteOut.failures c.args.output.now) (g.W.ByteOut.failures c.judge_frames.new.output)
    (g.W.ByteOut.failures c.args.output.now)
    c.in_ok-player.player.reader c.in_ok-player.player.decoder.accepted c.in_ok-player.ensures.ok
    c.judge_frames.new.player.notes told.0 c.in_ok-counts.counts told.1 told.2 none

pub returns-in_err-write_counts-clause-err : goal.returns-in_err-write_counts-clause-err
returns-in_err-write_counts-clause-err g c =
    let p = err_from_is_err_and c.from_residual-in_err-write_counts.result
    c.from_residual-in_err-write_counts.ensures.1 in
    let told = rw c.in_ok-player.ensures.silent at c.in_ok-counts.ensures.ok in
    rw (p.1, p.2)
    (count_stops c.args.profile c.args.place c.args.range (g.R.ByteIn.remaining c.args.input.now)
    (g.R.ByteIn.remaining c.open_range.new.input) (g.R.ByteIn.remaining c.judge_frames.new.input)
    (g.W.ByteOut.contents c.args.output.now) (g.W.ByteOut.contents c.judge_frames.new.output)
    (g.W.ByteOut.contents c.write_counts.new.output)
    (g.R.ByteIn.failures c.args.input.now) (g.R.ByteIn.failures c.open_range.new.input)
    (g.R.ByteIn.failures c.judge_frames.new.input)
    (g.W.ByteOut.failures c.args.output.now) (g.W.ByteOut.failures c.judge_frames.new.output)
    (g.W.ByteOut.failures c.write_counts.new.output)
    c.in_ok-player.player.reader c.in_ok-player.player.decoder.accepted c.in_ok-player.ensures.ok
    c.judge_frames.new.player.notes told.0 c.in_ok-counts.counts told.1 told.2 c.in_err-write_counts.field-0.0
    c.in_err-write_counts.ensures)

pub returns-clause-ok : goal.returns-clause-ok
returns-clause-ok g c =
    let told = rw c.in_ok-player.ensures.silent at c.in_ok-counts.ensures.ok in
    all_done c.args.profile c.args.place c.args.range (g.R.ByteIn.remaining c.args.input.now)
    (g.R.ByteIn.remaining c.open_range.new.input) (g.R.ByteIn.remaining c.judge_frames.new.input)
    (g.W.ByteOut.contents c.args.output.now) (g.W.ByteOut.contents c.judge_frames.new.output)
    (g.W.ByteOut.contents c.write_counts.new.output)
    (g.R.ByteIn.failures c.args.input.now) (g.R.ByteIn.failures c.open_range.new.input)
    (g.R.ByteIn.failures c.judge_frames.new.input)
    (g.W.ByteOut.failures c.args.output.now) (g.W.ByteOut.failures c.judge_frames.new.output)
    (g.W.ByteOut.failures c.write_counts.new.output)
    c.in_ok-player.player.reader c.in_ok-player.player.decoder.accepted c.in_ok-player.ensures.ok
    c.judge_frames.new.player.notes told.0 c.in_ok-counts.counts told.1 told.2 c.if-counts-eq0.false
    c.in_ok-write_counts.ensures.0 c.in_ok-write_counts.ensures.1
    c.notes_after-notes.result
    (λ room. c.notes_after-notes.ensures.read (length told.0) told.1.frames room)
    (c.notes_after-notes.ensures.unread (length told.0) told.1.frames)
    (noted_file c.args.profile c.in_ok-player.player.reader (g.R.ByteIn.remaining c.args.input.now)
    (g.R.ByteIn.remaining c.open_range.new.input) (g.R.ByteIn.remaining c.judge_frames.new.input)
    (g.R.ByteIn.failures c.args.input.now) (g.R.ByteIn.failures c.open_range.new.input)
    (g.R.ByteIn.failures c.judge_frames.new.input) c.judge_frames.new.player.notes c.notes_after-notes.result
    (has_more c.args.range.count (length told.0)) c.in_ok-player.ensures.located
    (c.in_ok-counts.ensures.noted (length told.0) told.1.frames)
    (λ room. c.notes_after-notes.ensures.read (length told.0) told.1.frames room))

pub returns-in_err-counts-clause-again : goal.returns-in_err-counts-clause-again
returns-in_err-counts-clause-again g c =
    let p = err_from_is_err_and c.from_residual-in_err-counts.result
    c.from_residual-in_err-counts.ensures.1 in
    rw (p.1, p.2) (told_again c.args.profile
    (g.R.AgainIn.begins c.args.input.now)
    (passage g.R.ByteIn.remaining g.R.ByteIn.failures c.args.input.now c.judge_frames.new.input)
    c.in_ok-player.player.reader (g.R.ByteIn.remaining c.open_range.new.input)
    c.in_err-counts.field-0.0 c.in_err-counts.ensures.own)

pub returns-in_err-write_counts-clause-again : goal.returns-in_err-write_counts-clause-again
returns-in_err-write_counts-clause-again g c =
    let p = err_from_is_err_and c.from_residual-in_err-write_counts.result
    c.from_residual-in_err-write_counts.ensures.1 in
    rw (p.1, p.2) (line_again c.args.profile
    (g.R.AgainIn.begins c.args.input.now)
    (passage g.R.ByteIn.remaining g.R.ByteIn.failures c.args.input.now c.judge_frames.new.input)
    _ _ c.in_err-write_counts.field-0.0 c.in_err-write_counts.ensures)

pub returns-in_err-write_counts-clause-own : goal.returns-in_err-write_counts-clause-own
returns-in_err-write_counts-clause-own g c =
    let p = err_from_is_err_and c.from_residual-in_err-write_counts.result
    c.from_residual-in_err-write_counts.ensures.1 in
    rw (p.1, p.2) (line_checks c.args.profile _ _ c.in_err-write_counts.field-0.0 c.in_err-write_counts.ensures)
