-- The same, by a decoder of its own.
use Rattle.std.proofs.Common.{refl, [], inl, ap}
use Rattle.std.proofs.lemmas.Result.{err_from_is_err_and}
use Rattle.ffv1_codec.specs.Answer.{Decoder}
use Rattle.ffv1_video.specs.Faults.{of_codec}
use Rattle.ffv1_unpack.specs.Told.{is_telling_fault}
use Rattle.ffv1_unpack.proofs.FramesInTurn.{reads_none}
use Rattle.ffv1_unpack.proofs.FramesPlayed.{has_stays}
use Rattle.ffv1_info.proofs.informing.read_picture.Goals as goal

pub returns-in_err-decoder-clause-err : goal.returns-in_err-decoder-clause-err
returns-in_err-decoder-clause-err g c =
    let p = err_from_is_err_and c.from_residual.result c.from_residual.ensures.1 in
    let from = c.args.reader.now.place in
    let o = g.R.ByteIn.remaining c.args.input.now in
    rw (p.1, p.2) (inl (record {
      is = ap of_codec c.in_err-decoder.ensures.err;
      has = has_stays from from o o [] (reads_none from o);
      kept = refl;
    }))

pub returns-in_err-decoder-clause-own : goal.returns-in_err-decoder-clause-own
returns-in_err-decoder-clause-own g c =
    let p = err_from_is_err_and c.from_residual.result c.from_residual.ensures.1 in
    rw (p.1, p.2) (inl (ap (λ z. is_telling_fault (of_codec z)) c.in_err-decoder.ensures.err))

pub returns-in_err-next-clause-err : goal.returns-in_err-next-clause-err
returns-in_err-next-clause-err g c =
    let p = err_from_is_err_and c.from_residual-in_err-next.result
    c.from_residual-in_err-next.ensures.1 in
    rw (p.1, p.2) (rw (ap (λ (z : Decoder). z.accepted) c.in_ok-decoder.ensures.ok) at
    c.in_err-next.ensures.err)

pub returns-clause-ok : goal.returns-clause-ok
returns-clause-ok g c = rw (ap (λ (z : Decoder). z.accepted) c.in_ok-decoder.ensures.ok) at
    c.in_ok-next.ensures.ok
