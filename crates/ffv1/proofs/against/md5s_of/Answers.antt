-- The MD5s of a list.
use Rattle.std.proofs.Common.{inl, inr, refl}
use Rattle.std.proofs.lemmas.Result.{err_from_is_err_and}
use Rattle.ffv1.proofs.against.md5s_of.Goals as goal

pub returns-in_err-reader-clause-unlisted : goal.returns-in_err-reader-clause-unlisted
returns-in_err-reader-clause-unlisted g c =
    let p = err_from_is_err_and c.from_residual.result c.from_residual.ensures.1 in
    rw (p.1, p.2) (inr (_, c.in_err-reader.ensures.lacked, refl))

pub returns-in-Ok-clause-listed : goal.returns-in-Ok-clause-listed
returns-in-Ok-clause-listed g c = (
  c.in_ok-reader.reader,
  c.read_list.new.input,
  c.in_ok-reader.ensures.listed,
  c.in-Ok.ensures.ok,
)

pub returns-clause-unlisted : goal.returns-clause-unlisted
returns-clause-unlisted g c = inl (
  c.in_ok-reader.reader,
  c.read_list.new.input,
  c.in_ok-reader.ensures.listed,
  c.in-Err.fault,
  c.in-Err.ensures.err,
  c.list_refusal.ensures.value,
)
