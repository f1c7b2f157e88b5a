-- Opens a file, and passes the frames before a range.
use Rattle.std.proofs.Common.{inl, inr, ap}
use Rattle.std.proofs.lemmas.Result.{err_from_is_err_and}
use Rattle.ffv1_video.specs.Faults.{cause_of}
use Rattle.ffv1_unpack.proofs.FramesPassed.{opens_range, pass_file}
use Rattle.ffv1_unpack.proofs.OwnFaults.{opening_checks, passing_checks}
use Rattle.ffv1_video.specs.Profiles.{scope_in}
use Rattle.ffv1_wire.specs.Passage.{passage}
use Rattle.ffv1_unpack.proofs.ReadAgain.{passing_again}
use Rattle.ffv1_unpack.proofs.hashing.open_range.Goals as goal

pub returns-in_err-player-clause-err : goal.returns-in_err-player-clause-err
returns-in_err-player-clause-err g c =
    let p = err_from_is_err_and c.from_residual.result c.from_residual.ensures.1 in
    rw (p.1, p.2) (inl c.in_err-player.ensures.err)

pub returns-in_err-player-clause-own : goal.returns-in_err-player-clause-own
returns-in_err-player-clause-own g c =
    let p = err_from_is_err_and c.from_residual.result c.from_residual.ensures.1 in
    rw (p.1, p.2) (opening_checks c.args.profile c.in_err-player.field-0.0
    c.in_err-player.ensures.own)

pub returns-in_err-pass_frames-clause-err : goal.returns-in_err-pass_frames-clause-err
returns-in_err-pass_frames-clause-err g c =
    let p = err_from_is_err_and c.from_residual-in_err-pass_frames.result
    c.from_residual-in_err-pass_frames.ensures.1 in
    let f = c.in_err-pass_frames.field-0.0 in
    rw (p.1, p.2) (inr (
      c.pass_frames.new.passed,
      pass_file c.args.profile c.args.first (g.R.ByteIn.remaining c.args.input.now)
          (g.R.ByteIn.remaining c.open_player.new.input)
          (g.R.ByteIn.remaining c.pass_frames.new.input) (g.R.ByteIn.failures c.args.input.now)
          (g.R.ByteIn.failures c.open_player.new.input)
          (g.R.ByteIn.failures c.pass_frames.new.input) c.in_ok-player.player.reader
          c.in_ok-player.player.decoder.accepted c.in_ok-player.ensures.ok
          c.pass_frames.new.passed f (cause_of f) c.in_err-pass_frames.ensures.answer,
    ))

pub returns-in_err-pass_frames-clause-own : goal.returns-in_err-pass_frames-clause-own
returns-in_err-pass_frames-clause-own g c =
    let p = err_from_is_err_and c.from_residual-in_err-pass_frames.result
    c.from_residual-in_err-pass_frames.ensures.1 in
    rw (p.1, p.2) (passing_checks c.args.profile c.in_ok-player.player.reader
    (g.R.ByteIn.remaining c.args.input.now)
    (g.R.ByteIn.remaining c.open_player.new.input)
    c.in_err-pass_frames.field-0.0 c.in_ok-player.ensures.located
    c.in_ok-player.ensures.ok.within
    c.in_err-pass_frames.ensures.own)

pub returns-clause-ok : goal.returns-clause-ok
returns-clause-ok g c =
    let passed = c.in_ok-pass_frames.ensures.answer in
    opens_range c.args.profile c.args.first (g.R.ByteIn.remaining c.args.input.now)
    (g.R.ByteIn.remaining c.open_player.new.input) (g.R.ByteIn.remaining c.pass_frames.new.input)
    (g.R.ByteIn.failures c.args.input.now) (g.R.ByteIn.failures c.open_player.new.input)
    (g.R.ByteIn.failures c.pass_frames.new.input) c.in_ok-player.player.reader
    c.in_ok-player.player.decoder.accepted c.in_ok-player.ensures.ok
    c.pass_frames.new.player.reader c.pass_frames.new.player.decoder.accepted passed.0 passed.1
    passed.2 c.in_ok-pass_frames.ensures.head
    (ap (λ d. d.accepted) c.in_ok-pass_frames.ensures.same) c.in_ok-pass_frames.ensures.container
    c.in_ok-pass_frames.ensures.sound

pub returns-clause-located : goal.returns-clause-located
returns-clause-located g c =
    c.in_ok-pass_frames.ensures.reached (scope_in c.args.profile) (g.R.ByteIn.remaining c.args.input.now)
    c.in_ok-player.ensures.located

pub returns-in_err-pass_frames-clause-again : goal.returns-in_err-pass_frames-clause-again
returns-in_err-pass_frames-clause-again g c =
    let p = err_from_is_err_and c.from_residual-in_err-pass_frames.result
    c.from_residual-in_err-pass_frames.ensures.1 in
    rw (p.1, p.2) (passing_again c.args.profile
    (g.R.AgainIn.begins c.args.input.now)
    (passage g.R.ByteIn.remaining g.R.ByteIn.failures c.args.input.now c.pass_frames.new.input)
    c.in_ok-player.player.reader (g.R.ByteIn.remaining c.open_player.new.input)
    c.in_err-pass_frames.field-0.0 c.in_err-pass_frames.ensures.own)
