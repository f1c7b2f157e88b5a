-- Tells what stands behind the items of a file, of which these are the counts.
use Rattle.std.proofs.Common.{inl, inr}
use Rattle.std.proofs.lemmas.Result.{err_from_is_err_and}
use Rattle.ffv1_unpack.proofs.unpacking_all.end_all.Goals as goal

pub returns-in_err-notes-clause-err : goal.returns-in_err-notes-clause-err
returns-in_err-notes-clause-err g c =
    let p = err_from_is_err_and c.from_residual.result c.from_residual.ensures.1 in
    rw (p.1, p.2) (inl c.in_err-notes.ensures.answer)

pub returns-in_err-notes-clause-own : goal.returns-in_err-notes-clause-own
returns-in_err-notes-clause-own g c =
    let p = err_from_is_err_and c.from_residual.result c.from_residual.ensures.1 in
    rw (p.1, p.2) (inr (inl c.in_err-notes.ensures.own))

pub returns-in_err-counts-clause-err : goal.returns-in_err-counts-clause-err
returns-in_err-counts-clause-err g c =
    let p = err_from_is_err_and c.from_residual-in_err-counts.result
    c.from_residual-in_err-counts.ensures.1 in
    let none = c.in_err-counts.ensures.err in
    rw (p.1, p.2) (inr (
      none.0,
      c.tell_behind.new.counts,
      none.1,
      none.2,
      c.in_ok-notes.notes,
      c.in_ok-notes.ensures.answer,
    ))

pub returns-in_err-counts-clause-own : goal.returns-in_err-counts-clause-own
returns-in_err-counts-clause-own g c =
    let p = err_from_is_err_and c.from_residual-in_err-counts.result
    c.from_residual-in_err-counts.ensures.1 in
    rw (p.1, p.2) (inr (inr (inl c.in_err-counts.ensures.err.0)))

pub returns-clause-ok : goal.returns-clause-ok
returns-clause-ok g c =
    let found = c.in_ok-counts.ensures.ok in
    rw found.0 (c.in_ok-notes.ensures.answer, found.1)
