-- Opens a file as `open_player` does.
use Rattle.std.proofs.Common.{inl, ap}
use Rattle.std.proofs.lemmas.Result.{err_from_is_err_and}
use Rattle.ffv1_wire.specs.Passage.{passage}
use Rattle.ffv1_unpack.specs.Opens.{is_opening_fault}
use Rattle.ffv1_video.specs.Profiles.{scope_in}
use Rattle.ffv1_unpack.proofs.FaultsLocated.{memory_located}
use Rattle.ffv1_unpack.proofs.Openings.{lacks_decoder}
use Rattle.ffv1_unpack.proofs.ReadAgain.{memory_again}
use Rattle.ffv1_unpack.proofs.player.open_player_located.Goals as goal

pub returns-in_err-player-clause-err : goal.returns-in_err-player-clause-err
returns-in_err-player-clause-err g c =
    let p = err_from_is_err_and c.from_residual-in_err-player.result
    c.from_residual-in_err-player.ensures.1 in
    rw (p.1, p.2)
    (lacks_decoder c.args.profile (passage g.R.ByteIn.remaining g.R.ByteIn.failures c.args.input.now
    c.open_stream_located.new.input) c.in_ok-reader.reader c.in_ok-reader.checked
    c.in_err-player.field-0.0
    c.in_ok-reader.ensures.ok c.in_err-player.ensures.err)

pub returns-in_err-player-clause-own : goal.returns-in_err-player-clause-own
returns-in_err-player-clause-own g c =
    let p = err_from_is_err_and c.from_residual-in_err-player.result
    c.from_residual-in_err-player.ensures.1 in
    rw (p.1, p.2) (inl (ap is_opening_fault c.in_err-player.ensures.err))

pub returns-in_err-player-clause-stopped : goal.returns-in_err-player-clause-stopped
returns-in_err-player-clause-stopped g c =
    let p = err_from_is_err_and c.from_residual-in_err-player.result
    c.from_residual-in_err-player.ensures.1 in
    rw (p.1, p.2) (memory_located (scope_in c.args.profile) _ c.in_err-player.field-0.0 _
    c.in_err-player.ensures.err)

pub returns-in_err-player-clause-again : goal.returns-in_err-player-clause-again
returns-in_err-player-clause-again g c =
    let p = err_from_is_err_and c.from_residual-in_err-player.result
    c.from_residual-in_err-player.ensures.1 in
    rw (p.1, p.2) (memory_again c.args.profile
    (g.R.AgainIn.begins c.args.input.now)
    (passage g.R.ByteIn.remaining g.R.ByteIn.failures c.args.input.now c.open_stream_located.new.input)
    c.in_err-player.field-0.0 c.in_err-player.ensures.err)
