-- Decodes all frames of a file, and writes what each took.
use Rattle.std.proofs.Common.{Err, ap, inl, inr}
use Rattle.std.proofs.lemmas.Result.{err_from_is_err_and}
use Rattle.ffv1.proofs.checking.write_check.Goals as goal

pub returns-in_err-reader-clause-checks : goal.returns-in_err-reader-clause-checks
returns-in_err-reader-clause-checks g c =
    let p = err_from_is_err_and c.from_residual.result c.from_residual.ensures.1 in
    let refused = ap Err c.in_err-reader.ensures.refused in
    rw (p.1, p.2) (inr (c.in_err-reader.ensures.missed, refused))

pub returns-clause-checks : goal.returns-clause-checks
returns-clause-checks g c = inl (
  c.in_ok-reader.reader,
  c.check_stream.new.input,
  c.in_ok-reader.ensures.opened,
  c.check_stream.ensures.checks,
)
