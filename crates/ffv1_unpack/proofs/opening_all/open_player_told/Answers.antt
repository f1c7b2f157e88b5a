-- Opens a file at `Wide`, and makes the decoder of its frames.
use Rattle.std.proofs.Common.{inl, inr, ap}
use Rattle.std.proofs.lemmas.Result.{err_from_is_err_and}
use Rattle.ffv1_wire.specs.Passage.{passage}
use Rattle.ffv1_video.specs.Profiles.{scope_in}
use Rattle.ffv1_video.specs.declared.profile.Profile.TheVariants.{Wide}
use Rattle.ffv1_unpack.specs.Opens.{is_opening_fault}
use Rattle.ffv1_unpack.proofs.FaultsLocated.{memory_located}
use Rattle.ffv1_unpack.proofs.OpenedTold.{memory_tried}
use Rattle.ffv1_unpack.proofs.Openings.{lacks_decoder}
use Rattle.ffv1_unpack.proofs.ReadAgain.{memory_again}
use Rattle.ffv1_unpack.proofs.opening_all.open_player_told.Goals as goal

pub returns-in_err-player-clause-err : goal.returns-in_err-player-clause-err
returns-in_err-player-clause-err g c = λ none.
    (let p = err_from_is_err_and c.from_residual-in_err-player.result
    c.from_residual-in_err-player.ensures.1 in
    rw (p.1, p.2) (lacks_decoder Wide (passage g.R.ByteIn.remaining g.R.ByteIn.failures
    c.args.input.now c.open_stream_told.new.input) c.in_ok-reader.reader c.in_ok-reader.checked
    c.in_err-player.field-0.0 (c.in_ok-reader.ensures.ok none) c.in_err-player.ensures.err))

pub returns-in_err-player-clause-stopped : goal.returns-in_err-player-clause-stopped
returns-in_err-player-clause-stopped g c = λ none.
    (let p = err_from_is_err_and c.from_residual-in_err-player.result
    c.from_residual-in_err-player.ensures.1 in
    rw (p.1, p.2) (memory_located (scope_in Wide) _ c.in_err-player.field-0.0 _
    c.in_err-player.ensures.err))

pub returns-in_err-player-clause-refused : goal.returns-in_err-player-clause-refused
returns-in_err-player-clause-refused g c = λ some.
    (let p = err_from_is_err_and c.from_residual-in_err-player.result
    c.from_residual-in_err-player.ensures.1 in
    let opens = c.in_ok-reader.ensures.told some in
    rw (p.1, p.2) (inr (record {
      head = c.in_ok-reader.reader.head;
      from = c.in_ok-reader.reader.place;
      offset = c.in_ok-reader.reader.offset;
      known = opens.known;
      kept = opens.kept;
      lacks = inl (c.in_err-player.ensures.err, inr (c.in_ok-reader.checked, opens.stream));
    })))

pub returns-in_err-player-clause-own : goal.returns-in_err-player-clause-own
returns-in_err-player-clause-own g c =
    let p = err_from_is_err_and c.from_residual-in_err-player.result
    c.from_residual-in_err-player.ensures.1 in
    rw (p.1, p.2) (inl (ap is_opening_fault c.in_err-player.ensures.err))

pub returns-in_err-player-clause-again : goal.returns-in_err-player-clause-again
returns-in_err-player-clause-again g c =
    let p = err_from_is_err_and c.from_residual-in_err-player.result
    c.from_residual-in_err-player.ensures.1 in
    rw (p.1, p.2) (inl (memory_again Wide (g.R.AgainIn.begins c.args.input.now)
    (passage g.R.ByteIn.remaining g.R.ByteIn.failures c.args.input.now c.open_stream_told.new.input)
    c.in_err-player.field-0.0 c.in_err-player.ensures.err))

pub returns-in_err-player-clause-tried : goal.returns-in_err-player-clause-tried
returns-in_err-player-clause-tried g c =
    let p = err_from_is_err_and c.from_residual-in_err-player.result
    c.from_residual-in_err-player.ensures.1 in
    rw (p.1, p.2) (memory_tried (passage g.R.ByteIn.remaining g.R.ByteIn.failures c.args.input.now
    c.open_stream_told.new.input) c.in_err-player.field-0.0 c.in_err-player.ensures.err)

pub returns-clause-ok : goal.returns-clause-ok
returns-clause-ok g c = λ none. rw (c.in_ok-player.ensures.reader, c.in_ok-player.ensures.decoder)
    (c.in_ok-reader.ensures.ok none)

pub returns-clause-told : goal.returns-clause-told
returns-clause-told g c = λ some. rw (c.in_ok-player.ensures.reader, c.in_ok-player.ensures.decoder)
    (c.in_ok-reader.ensures.told some)
