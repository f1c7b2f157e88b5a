-- Unpacks frames of a file into a text of their pictures.
use Rattle.std.proofs.Common.{inl, inr, refl}
use Rattle.std.proofs.lemmas.Result.{err_from_is_err_and}
use Rattle.ffv1.proofs.making.run_unpack.Goals as goal

pub returns-in_err-reader-clause-unpacks : goal.returns-in_err-reader-clause-unpacks
returns-in_err-reader-clause-unpacks g c =
    let p = err_from_is_err_and c.from_residual.result c.from_residual.ensures.1 in
    rw (p.1, p.2) (inr (_, c.in_err-reader.ensures.missed, refl))

pub returns-in_err-tell_unpacked-in-Ok-clause-unpacks :
    goal.returns-in_err-tell_unpacked-in-Ok-clause-unpacks
returns-in_err-tell_unpacked-in-Ok-clause-unpacks g c =
    let p = err_from_is_err_and c.from_residual-in_err-tell_unpacked-in-Ok.result
    c.from_residual-in_err-tell_unpacked-in-Ok.ensures.1 in
    rw (p.1, p.2) (inl (
      _,
      c.unpack_stream-written.new.input,
      _,
      c.unpack_stream-written.result.0,
      c.in_ok-reader.ensures.opened,
      c.in_ok-reader.ensures.made,
      (
        c.unpack_stream-written.result.1,
        c.unpack_stream-written.ensures.unpacks,
        rw c.in-Ok.is (inr (_, refl, c.in_err-tell_unpacked-in-Ok.ensures.untold)),
      ),
    ))

pub returns-in-Ok-clause-unpacks : goal.returns-in-Ok-clause-unpacks
returns-in-Ok-clause-unpacks g c = inl (
  _,
  c.unpack_stream-written.new.input,
  _,
  c.unpack_stream-written.result.0,
  c.in_ok-reader.ensures.opened,
  c.in_ok-reader.ensures.made,
  (
    c.unpack_stream-written.result.1,
    c.unpack_stream-written.ensures.unpacks,
    rw c.in-Ok.is (inl c.noted.ensures.value),
  ),
)

pub returns-clause-unpacks : goal.returns-clause-unpacks
returns-clause-unpacks g c = inl (
  _,
  c.unpack_stream-written.new.input,
  _,
  c.unpack_stream-written.result.0,
  c.in_ok-reader.ensures.opened,
  c.in_ok-reader.ensures.made,
  (
    c.unpack_stream-written.result.1,
    c.unpack_stream-written.ensures.unpacks,
    rw c.in-Err.is refl,
  ),
)
