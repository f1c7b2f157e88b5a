-- Compares all pictures of a file with MD5s.
use Rattle.std.proofs.Common.{inl, inr, refl}
use Rattle.std.proofs.lemmas.Result.{err_from_is_err_and}
use Rattle.ffv1.proofs.against.compare.Goals as goal

pub returns-in_err-reader-clause-compares : goal.returns-in_err-reader-clause-compares
returns-in_err-reader-clause-compares g c =
    let p = err_from_is_err_and c.from_residual.result c.from_residual.ensures.1 in
    rw (p.1, p.2, c.in_err-reader.ensures.refused) (inr (c.in_err-reader.ensures.missed, refl))

pub returns-in-Ok-clause-compares : goal.returns-in-Ok-clause-compares
returns-in-Ok-clause-compares g c = inl (
  c.in_ok-reader.reader,
  c.check_against.new.input,
  c.in_ok-reader.ensures.opened,
  c.in-Ok.ensures.ok,
)

pub returns-clause-compares : goal.returns-clause-compares
returns-clause-compares g c = inl (
  c.in_ok-reader.reader,
  c.check_against.new.input,
  c.in_ok-reader.ensures.opened,
  (c.in-Err.unlike, c.in-Err.ensures.err, c.unlike_refusal.ensures.value),
)
