-- Opens a file whose pictures have a text, and passes the frames before a range.
use Rattle.std.proofs.Common.{inl, inr, ap, sym, subst}
use Rattle.std.proofs.lemmas.Result.{err_from_is_err_and}
use Rattle.ffv1_record.specs.Accepted.{Accepted}
use Rattle.ffv1_reads.specs.Head.{Head}
use Rattle.ffv1_video.specs.Faults.{cause_of}
use Rattle.ffv1_unpack.specs.Unpacked.{HasText}
use Rattle.ffv1_unpack.proofs.FramesPassed.{opens_part, pass_file}
use Rattle.ffv1_unpack.proofs.OwnFaults.{passing_unpacks}
use Rattle.ffv1_video.specs.Profiles.{scope_in}
use Rattle.ffv1_wire.specs.Passage.{passage}
use Rattle.ffv1_unpack.proofs.ReadAgain.{passing_again}
use Rattle.ffv1_unpack.proofs.unpacking.open_unpacking_range.Goals as goal

pub returns-in_err-player-clause-err : goal.returns-in_err-player-clause-err
returns-in_err-player-clause-err g c =
    let p = err_from_is_err_and c.from_residual.result c.from_residual.ensures.1 in
    rw (p.1, p.2) (inl c.in_err-player.ensures.err)

pub returns-in_err-player-clause-own : goal.returns-in_err-player-clause-own
returns-in_err-player-clause-own g c =
    let p = err_from_is_err_and c.from_residual.result c.from_residual.ensures.1 in
    rw (p.1, p.2) c.in_err-player.ensures.own

pub returns-in_err-pass_keeping-clause-err : goal.returns-in_err-pass_keeping-clause-err
returns-in_err-pass_keeping-clause-err g c =
    let p = err_from_is_err_and c.from_residual-in_err-pass_keeping.result
    c.from_residual-in_err-pass_keeping.ensures.1 in
    let f = c.in_err-pass_keeping.field-0.0 in
    rw (p.1, p.2) (inr (
      c.pass_keeping.new.passed,
      pass_file c.args.profile c.args.first (g.R.ByteIn.remaining c.args.input.now)
          (g.R.ByteIn.remaining c.open_unpacking.new.input)
          (g.R.ByteIn.remaining c.pass_keeping.new.input) (g.R.ByteIn.failures c.args.input.now)
          (g.R.ByteIn.failures c.open_unpacking.new.input)
          (g.R.ByteIn.failures c.pass_keeping.new.input) c.in_ok-player.player.reader
          c.in_ok-player.player.decoder.accepted c.in_ok-player.ensures.ok
          c.pass_keeping.new.passed f (cause_of f) c.in_err-pass_keeping.ensures.answer,
    ))

pub returns-in_err-pass_keeping-clause-own : goal.returns-in_err-pass_keeping-clause-own
returns-in_err-pass_keeping-clause-own g c =
    let p = err_from_is_err_and c.from_residual-in_err-pass_keeping.result
    c.from_residual-in_err-pass_keeping.ensures.1 in
    rw (p.1, p.2) (passing_unpacks c.args.profile c.in_ok-player.player.reader
    (g.R.ByteIn.remaining c.args.input.now)
    (g.R.ByteIn.remaining c.open_unpacking.new.input)
    c.in_err-pass_keeping.field-0.0 c.in_ok-player.ensures.located
    c.in_ok-player.ensures.ok.within
    c.in_err-pass_keeping.ensures.own)

pub returns-clause-ok : goal.returns-clause-ok
returns-clause-ok g c =
    let passed = c.in_ok-pass_keeping.ensures.answer in
    opens_part c.args.profile c.args.first (g.R.ByteIn.remaining c.args.input.now)
    (g.R.ByteIn.remaining c.open_unpacking.new.input) (g.R.ByteIn.remaining c.pass_keeping.new.input)
    (g.R.ByteIn.failures c.args.input.now) (g.R.ByteIn.failures c.open_unpacking.new.input)
    (g.R.ByteIn.failures c.pass_keeping.new.input) c.in_ok-player.player.reader
    c.in_ok-player.player.decoder.accepted c.in_ok-player.ensures.ok
    c.pass_keeping.new.player.reader c.pass_keeping.new.player.decoder.accepted passed.0
    c.pass_keeping.new.kept.items passed.1 passed.2 passed.3 c.in_ok-pass_keeping.ensures.head
    (ap (λ d. d.accepted) c.in_ok-pass_keeping.ensures.same) c.in_ok-pass_keeping.ensures.container
    c.in_ok-pass_keeping.ensures.sound

pub returns-clause-text : goal.returns-clause-text
returns-clause-text g c =
    subst (λ (z : Head). HasText (record {
      head = z;
      accepted = c.pass_keeping.new.player.decoder.accepted;
    })) (sym c.in_ok-pass_keeping.ensures.head)
    (subst (λ (z : Accepted). HasText (record {
      head = c.in_ok-player.player.reader.head;
      accepted = z;
    })) (sym (ap (λ d. d.accepted) c.in_ok-pass_keeping.ensures.same)) c.in_ok-player.ensures.text)

pub returns-clause-located : goal.returns-clause-located
returns-clause-located g c =
    c.in_ok-pass_keeping.ensures.reached (scope_in c.args.profile) (g.R.ByteIn.remaining c.args.input.now)
    c.in_ok-player.ensures.located

pub returns-in_err-pass_keeping-clause-again : goal.returns-in_err-pass_keeping-clause-again
returns-in_err-pass_keeping-clause-again g c =
    let p = err_from_is_err_and c.from_residual-in_err-pass_keeping.result
    c.from_residual-in_err-pass_keeping.ensures.1 in
    rw (p.1, p.2) (passing_again c.args.profile
    (g.R.AgainIn.begins c.args.input.now)
    (passage g.R.ByteIn.remaining g.R.ByteIn.failures c.args.input.now c.pass_keeping.new.input)
    c.in_ok-player.player.reader (g.R.ByteIn.remaining c.open_unpacking.new.input)
    c.in_err-pass_keeping.field-0.0 c.in_err-pass_keeping.ensures.own)
