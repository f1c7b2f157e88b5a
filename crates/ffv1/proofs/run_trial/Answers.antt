-- `run_trial`: what comes of the file of a path.
use Rattle.std.proofs.Common.{None, inl, inr, refl}
use Rattle.std.proofs.lemmas.Result.{err_from_is_err_and}
use Rattle.ffv1_wire.specs.Passage.{at_rest}
use Rattle.ffv1.specs.Opened.{unread}
use Rattle.ffv1.proofs.run_trial.Goals as goal

pub returns-in_err-reader-clause-tries : goal.returns-in_err-reader-clause-tries
returns-in_err-reader-clause-tries g c =
    let p = err_from_is_err_and c.from_residual.result c.from_residual.ensures.1 in
    rw (p.1, p.2, c.in_err-reader.ensures.refused)
    (at_rest None 0, unread, refl, inr (c.in_err-reader.ensures.missed, refl))

pub returns-clause-tries : goal.returns-clause-tries
returns-clause-tries g c = (
  _,
  c.trial_stream.result,
  c.without_notes.ensures.value,
  inl (
    c.in_ok-reader.reader,
    c.trial_stream.new.input,
    c.in_ok-reader.ensures.opened,
    c.trial_stream.ensures.tries,
  ),
)
