-- Opens a file whose pictures have a text, and tells the faults before its first frame.
use Rattle.std.proofs.Common.{inl, inr}
use Rattle.std.proofs.lemmas.Result.{err_from_is_err_and}
use Rattle.ffv1_wire.specs.Passage.{passage}
use Rattle.ffv1_record.specs.Configuration.{is_rct}
use Rattle.ffv1_unpack.proofs.FileUnpacked.{lacks_text, text_own}
use Rattle.ffv1_unpack.proofs.OwnFaults.{opening_unpacks}
use Rattle.ffv1_unpack.proofs.ReadAgain.{unpack_again}
use Rattle.ffv1_unpack.proofs.ToldChecks.{either_way, not_plain}
use Rattle.ffv1_unpack.proofs.ToldUnpacked.{told_lacks}
use Rattle.ffv1_unpack.proofs.UnpackedTold.{plainly_lacks, text_tried}
use Rattle.ffv1_unpack.proofs.unpacking_all.open_whole.Goals as goal

pub returns-in_err-player-clause-err : goal.returns-in_err-player-clause-err
returns-in_err-player-clause-err g c = λ none.
    (let p = err_from_is_err_and c.from_residual.result c.from_residual.ensures.1 in
    rw (p.1, p.2) (plainly_lacks c.args.profile (passage g.R.ByteIn.remaining g.R.ByteIn.failures
    c.args.input.now c.open_telling.new.input) c.in_err-player.field-0.0 (c.in_err-player.ensures.err none)))

pub returns-in_err-player-clause-refused : goal.returns-in_err-player-clause-refused
returns-in_err-player-clause-refused g c = λ some.
    (let p = err_from_is_err_and c.from_residual.result c.from_residual.ensures.1 in
    rw (p.1, p.2) (c.open_telling.new.offset, c.in_err-player.ensures.refused some))

pub returns-in_err-player-clause-own : goal.returns-in_err-player-clause-own
returns-in_err-player-clause-own g c =
    let p = err_from_is_err_and c.from_residual.result c.from_residual.ensures.1 in
    rw (p.1, p.2) (opening_unpacks c.args.profile c.in_err-player.field-0.0
    c.in_err-player.ensures.own)

pub returns-in_err-player-clause-again : goal.returns-in_err-player-clause-again
returns-in_err-player-clause-again g c =
    let p = err_from_is_err_and c.from_residual.result c.from_residual.ensures.1 in
    rw (p.1, p.2) c.in_err-player.ensures.again

pub returns-in_err-player-clause-tried : goal.returns-in_err-player-clause-tried
returns-in_err-player-clause-tried g c =
    let p = err_from_is_err_and c.from_residual.result c.from_residual.ensures.1 in
    rw (p.1, p.2) c.in_err-player.ensures.tried

pub returns-in-Err-clause-err : goal.returns-in-Err-clause-err
returns-in-Err-clause-err g c = λ cleared.
    (let lacks = rw c.config.ensures at c.in-Err.ensures.err in
    elim (either_way c.open_telling.new.way) [
      | inl none ↦ inl (lacks_text c.args.profile (g.R.ByteIn.remaining c.args.input.now)
          (g.R.ByteIn.remaining c.open_telling.new.input) (g.R.ByteIn.failures c.args.input.now)
          (g.R.ByteIn.failures c.open_telling.new.input)
          c.in_ok-player.player.reader c.in_ok-player.player.decoder.accepted
          c.in-Err.fault (c.in_ok-player.ensures.ok none) lacks)
      | inr some ↦ inr (inr (
        c.in_ok-player.ensures.plainly some,
        told_lacks c.args.profile (passage g.R.ByteIn.remaining g.R.ByteIn.failures
            c.args.input.now c.open_telling.new.input) c.in_ok-player.player.reader
            c.in_ok-player.player.decoder.accepted c.open_telling.new.told.data
            c.open_telling.new.told.faults.items (c.in_ok-player.ensures.told some) c.in-Err.fault lacks,
      ))
    ])

pub returns-in-Err-clause-refused : goal.returns-in-Err-clause-refused
returns-in-Err-clause-refused g c = λ telling. not_plain telling

pub returns-in-Err-clause-plainly : goal.returns-in-Err-clause-plainly
returns-in-Err-clause-plainly g c = λ telling. not_plain telling

pub returns-in-Err-clause-own : goal.returns-in-Err-clause-own
returns-in-Err-clause-own g c =
    let configuration = c.in_ok-player.player.decoder.accepted.configuration in
    inl (text_own (is_rct configuration.colour) configuration
    c.in-Err.fault (rw c.config.ensures at c.in-Err.ensures.err))

pub returns-in-Err-clause-again : goal.returns-in-Err-clause-again
returns-in-Err-clause-again g c =
    let configuration = c.in_ok-player.player.decoder.accepted.configuration in
    inl (unpack_again c.args.profile (g.R.AgainIn.begins c.args.input.now)
    (passage g.R.ByteIn.remaining g.R.ByteIn.failures c.args.input.now c.open_telling.new.input)
    c.in-Err.fault (text_own (is_rct configuration.colour) configuration c.in-Err.fault
    (rw c.config.ensures at c.in-Err.ensures.err)))

pub returns-in-Err-clause-tried : goal.returns-in-Err-clause-tried
returns-in-Err-clause-tried g c =
    let configuration = c.in_ok-player.player.decoder.accepted.configuration in
    text_tried (passage g.R.ByteIn.remaining g.R.ByteIn.failures c.args.input.now
    c.open_telling.new.input) (is_rct configuration.colour) configuration c.in-Err.fault
    (rw c.config.ensures at c.in-Err.ensures.err)
