-- Packs a video into a file.
use Rattle.std.proofs.Common.{Err, Ok, inl, inr, refl}
use Rattle.std.proofs.lemmas.Result.{err_from_is_err_and}
use Rattle.ffv1.proofs.making.run_pack.Goals as goal

pub returns-in_err-reader-clause-packs : goal.returns-in_err-reader-clause-packs
returns-in_err-reader-clause-packs g c =
    let p = err_from_is_err_and c.from_residual.result c.from_residual.ensures.1 in
    rw (p.1, p.2) (inr (_, c.in_err-reader.ensures.missed, refl))

pub returns-in_err-tell_packed-in-Ok-clause-packs :
    goal.returns-in_err-tell_packed-in-Ok-clause-packs
returns-in_err-tell_packed-in-Ok-clause-packs g c =
    let p = err_from_is_err_and c.from_residual-in_err-tell_packed-in-Ok.result
    c.from_residual-in_err-tell_packed-in-Ok.ensures.1 in
    rw (p.1, p.2, ← c.is_matroska.ensures) (inl (
      _,
      c.pack_into.new.input,
      _,
      c.pack_into.new.output,
      c.in_ok-reader.ensures.opened,
      c.in_ok-reader.ensures.made,
      (
        Ok c.in-Ok.counts,
        c.in-Ok.ensures.packs,
        c.in-Ok.ensures.asks,
        inr (_, refl, c.in_err-tell_packed-in-Ok.ensures.untold),
      ),
    ))

pub returns-in-Ok-clause-packs : goal.returns-in-Ok-clause-packs
returns-in-Ok-clause-packs g c = rw (← c.is_matroska.ensures) (inl (
  _,
  c.pack_into.new.input,
  _,
  c.pack_into.new.output,
  c.in_ok-reader.ensures.opened,
  c.in_ok-reader.ensures.made,
  (Ok c.in-Ok.counts, c.in-Ok.ensures.packs, c.in-Ok.ensures.asks, inl refl),
))

pub returns-clause-packs : goal.returns-clause-packs
returns-clause-packs g c = rw (← c.is_matroska.ensures) (inl (
  _,
  c.pack_into.new.input,
  _,
  c.pack_into.new.output,
  c.in_ok-reader.ensures.opened,
  c.in_ok-reader.ensures.made,
  (Err c.in-Err.refusal, c.in-Err.ensures.packs, c.in-Err.ensures.asks, refl),
))
