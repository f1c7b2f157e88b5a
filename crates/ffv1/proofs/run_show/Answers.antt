-- `run_show`: what comes of the file of a path.
use Rattle.std.proofs.Common.{None, inl, inr, refl}
use Rattle.std.proofs.lemmas.Result.{err_from_is_err_and}
use Rattle.ffv1_wire.specs.Passage.{at_rest}
use Rattle.ffv1.proofs.run_show.Goals as goal

pub returns-in_err-reader-clause-shows : goal.returns-in_err-reader-clause-shows
returns-in_err-reader-clause-shows g c =
    let p = err_from_is_err_and c.from_residual.result c.from_residual.ensures.1 in
    rw (p.1, p.2, c.in_err-reader.ensures.refused)
    (at_rest None 0, inr (c.in_err-reader.ensures.missed, refl))

pub returns-clause-shows : goal.returns-clause-shows
returns-clause-shows g c = (
  _,
  inl (
    c.in_ok-reader.reader,
    c.show_stream.new.input,
    c.in_ok-reader.ensures.opened,
    c.show_stream.ensures.shows,
  ),
)
