-- Decodes all frames of a file that was opened, and writes what each cost.
use Rattle.std.proofs.Common.{refl, inl, inr}
use Rattle.std.proofs.lemmas.Result.{err_from_is_err_and}
use Rattle.ffv1_video.proofs.Output.{silent}
use Rattle.std.proofs.Common.{length}
use Rattle.ffv1_unpack.proofs.showing.tell_costs.Goals as goal

pub returns-in_err-player-clause-err : goal.returns-in_err-player-clause-err
returns-in_err-player-clause-err g c =
    let p = err_from_is_err_and c.from_residual.result c.from_residual.ensures.1 in
    let o = g.W.ByteOut.contents c.args.output.now in
    let m = g.W.ByteOut.failures c.args.output.now in
    rw (p.1, p.2) (inl (record {
      is = c.in_err-player.ensures.err;
      left = refl;
      unread = refl;
      silent = silent o m;
    }))

pub returns-in_err-tell_frames-clause-err : goal.returns-in_err-tell_frames-clause-err
returns-in_err-tell_frames-clause-err g c =
    let p = err_from_is_err_and c.from_residual-in_err-tell_frames.result
    c.from_residual-in_err-tell_frames.ensures.1 in
    rw (p.1, p.2) (inr (rw (c.in_ok-player.ensures.reader, c.in_ok-player.ensures.decoder) at
    c.in_err-tell_frames.ensures.err))

pub returns-clause-noted : goal.returns-clause-noted
returns-clause-noted g c =
    let told = c.in_ok-tell_frames.ensures.ok in
    rw c.in_ok-player.ensures.reader at
    (c.in_ok-tell_frames.ensures.noted (length told.0) told.1 refl)

pub returns-clause-ok : goal.returns-clause-ok
returns-clause-ok g c =
    let told = rw (c.in_ok-player.ensures.reader, c.in_ok-player.ensures.decoder) at
    c.in_ok-tell_frames.ensures.ok in
    (told.0, told.2)
