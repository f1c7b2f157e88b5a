-- Prints the facts of a file as an object of JSON.
use Rattle.std.proofs.Common.{inl, inr, refl}
use Rattle.std.proofs.lemmas.Result.{err_from_is_err_and}
use Rattle.ffv1.proofs.infos.print_object.Goals as goal

pub returns-in_err-begin-clause-facts : goal.returns-in_err-begin-clause-facts
returns-in_err-begin-clause-facts g c =
    let p = err_from_is_err_and c.from_residual.result c.from_residual.ensures.1 in
    inl (rw (p.1, p.2) (_, c.in_err-begin.ensures.begins, c.in_err-begin.ensures.untold, refl))

pub returns-in_err-end-clause-facts : goal.returns-in_err-end-clause-facts
returns-in_err-end-clause-facts g c =
    let p = err_from_is_err_and c.from_residual-in_err-end.result c.from_residual-in_err-end.ensures.1 in
    inr (
      c.print_facts-done.result,
      c.in_ok-begin.ensures.begins,
      c.print_facts-done.ensures.facts,
      inr (rw (p.1, p.2) (_, c.in_err-end.ensures.ends, c.in_err-end.ensures.untold, refl)),
    )

pub returns-clause-facts : goal.returns-clause-facts
returns-clause-facts g c = inr (
  c.print_facts-done.result,
  c.in_ok-begin.ensures.begins,
  c.print_facts-done.ensures.facts,
  inl (c.in_ok-end.ensures.ends, refl),
)
