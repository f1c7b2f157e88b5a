-- Judges all frames that are left, up to the first fault of the file itself.
use Rattle.std.proofs.Common.{rules, ◌≡◌, inl, inr, length, refl}
use Rattle.std.proofs.lemmas.Result.{err_from_is_err_and}
use Rattle.ffv1_video.specs.Profiles.{scope_in}
use Rattle.ffv1_unpack.proofs.AllJudged.{all_judged, all_none, all_stop, all_uncounted}
use Rattle.ffv1_unpack.proofs.FileRead.{holds_payloads}
use Rattle.ffv1_unpack.proofs.ItemsJudged.{line_own}
use Rattle.ffv1_unpack.proofs.judging_all.judge_plainly.Goals as goal

pub returns-in_err-counts-clause-err : goal.returns-in_err-counts-clause-err
returns-in_err-counts-clause-err g c = λ profile i0 ib opens stands told.
    (let p = err_from_is_err_and c.from_residual.result c.from_residual.ensures.1 in
    let o = g.W.ByteOut.contents c.args.output.now in
    let n = g.W.ByteOut.failures c.args.output.now in
    rw (p.1, p.2) (all_stop profile c.args.places.place i0 (g.R.ByteIn.remaining c.args.input.now)
    (g.R.ByteIn.remaining c.judge_frames.new.input) o
    (g.W.ByteOut.contents c.judge_frames.new.output) o ib (g.R.ByteIn.failures c.args.input.now)
    (g.R.ByteIn.failures c.judge_frames.new.input) n
    (g.W.ByteOut.failures c.judge_frames.new.output) n c.args.player.now.reader
    c.args.player.now.decoder.accepted opens stands c.in_err-counts.field-0.0
    (rw told at c.in_err-counts.ensures.err)))

pub returns-in_err-counts-clause-own : goal.returns-in_err-counts-clause-own
returns-in_err-counts-clause-own g c =
    let p = err_from_is_err_and c.from_residual.result c.from_residual.ensures.1 in
    rw (p.1, p.2) (inr c.in_err-counts.ensures.own)

pub returns-then-counts-eq0-clause-err : goal.returns-then-counts-eq0-clause-err
returns-then-counts-eq0-clause-err g c = λ profile i0 ib opens stands byte.
    (let o = g.W.ByteOut.contents c.args.output.now in
    let n = g.W.ByteOut.failures c.args.output.now in
    let told = c.in_ok-counts.ensures.ok in
    let none : c.in_ok-counts.counts.frames ≡ 0 = search rules in
    all_none profile c.args.places.place i0 (g.R.ByteIn.remaining c.args.input.now)
    (g.R.ByteIn.remaining c.judge_frames.new.input) o
    (g.W.ByteOut.contents c.judge_frames.new.output) o ib (g.R.ByteIn.failures c.args.input.now)
    (g.R.ByteIn.failures c.judge_frames.new.input) n
    (g.W.ByteOut.failures c.judge_frames.new.output) n c.args.player.now.reader
    c.args.player.now.decoder.accepted opens c.judge_frames.new.player.notes told.0
    c.in_ok-counts.counts told.1 told.2 none)

pub returns-in_err-write_counts-clause-err : goal.returns-in_err-write_counts-clause-err
returns-in_err-write_counts-clause-err g c = λ profile i0 ib opens stands byte.
    (let p = err_from_is_err_and c.from_residual-in_err-write_counts.result
    c.from_residual-in_err-write_counts.ensures.1 in
    let told = c.in_ok-counts.ensures.ok in
    rw (p.1, p.2) (all_uncounted profile c.args.places.place i0
    (g.R.ByteIn.remaining c.args.input.now) (g.R.ByteIn.remaining c.judge_frames.new.input)
    (g.W.ByteOut.contents c.args.output.now) (g.W.ByteOut.contents c.judge_frames.new.output)
    (g.W.ByteOut.contents c.write_counts.new.output) ib (g.R.ByteIn.failures c.args.input.now)
    (g.R.ByteIn.failures c.judge_frames.new.input) (g.W.ByteOut.failures c.args.output.now)
    (g.W.ByteOut.failures c.judge_frames.new.output)
    (g.W.ByteOut.failures c.write_counts.new.output) c.args.player.now.reader
    c.args.player.now.decoder.accepted opens c.judge_frames.new.player.notes told.0
    c.in_ok-counts.counts told.1 told.2 c.in_err-write_counts.field-0.0
    c.in_err-write_counts.ensures))

pub returns-in_err-write_counts-clause-own : goal.returns-in_err-write_counts-clause-own
returns-in_err-write_counts-clause-own g c =
    let p = err_from_is_err_and c.from_residual-in_err-write_counts.result
    c.from_residual-in_err-write_counts.ensures.1 in
    rw (p.1, p.2) (inr (inl (line_own _ _ c.in_err-write_counts.field-0.0
    c.in_err-write_counts.ensures)))

pub returns-clause-ok : goal.returns-clause-ok
returns-clause-ok g c = λ profile i0 ib opens stands.
    (let told = c.in_ok-counts.ensures.ok in
    all_judged profile c.args.places.place i0 (g.R.ByteIn.remaining c.args.input.now)
    (g.R.ByteIn.remaining c.judge_frames.new.input) (g.W.ByteOut.contents c.args.output.now)
    (g.W.ByteOut.contents c.judge_frames.new.output)
    (g.W.ByteOut.contents c.write_counts.new.output) ib (g.R.ByteIn.failures c.args.input.now)
    (g.R.ByteIn.failures c.judge_frames.new.input) (g.W.ByteOut.failures c.args.output.now)
    (g.W.ByteOut.failures c.judge_frames.new.output)
    (g.W.ByteOut.failures c.write_counts.new.output) c.args.player.now.reader
    c.args.player.now.decoder.accepted opens c.judge_frames.new.player.notes told.0
    c.in_ok-counts.counts told.1 told.2
    (holds_payloads c.frames_come_in_turn.ensures c.what_is_read_is_a_file.ensures.first
    c.what_is_read_is_a_file.ensures.whole)
    c.if-counts-eq0.false c.in_ok-write_counts.ensures.0 c.in_ok-write_counts.ensures.1
    (c.in_ok-counts.ensures.noted (length told.0) told.1.frames refl (scope_in profile) i0 stands))
