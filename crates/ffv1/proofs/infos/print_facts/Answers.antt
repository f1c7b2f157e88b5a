-- Prints the facts of a file.
use Rattle.std.proofs.Common.{None, inl, inr, refl}
use Rattle.std.proofs.lemmas.Result.{err_from_is_err_and}
use Rattle.ffv1_wire.specs.Passage.{at_rest}
use Rattle.ffv1.proofs.infos.print_facts.Goals as goal

pub returns-in_err-reader-clause-facts : goal.returns-in_err-reader-clause-facts
returns-in_err-reader-clause-facts g c =
    let p = err_from_is_err_and c.from_residual.result c.from_residual.ensures.1 in
    rw (p.1, p.2, c.in_err-reader.ensures.refused)
    (at_rest None 0, inr (c.in_err-reader.ensures.missed, refl))

pub returns-clause-facts : goal.returns-clause-facts
returns-clause-facts g c = (
  _,
  inl (
    c.in_ok-reader.reader,
    c.in_ok-reader.ensures.opened,
    rw c.form.ensures at c.info_stream.ensures.informs,
  ),
)
