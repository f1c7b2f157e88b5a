-- Reads the list, compares all pictures of the file with it, and tells what came of it.
use Rattle.std.proofs.Common.{inl, inr, refl}
use Rattle.ffv1.proofs.against.run_against.Goals as goal

pub returns-in-Ok-clause-compares : goal.returns-in-Ok-clause-compares
returns-in-Ok-clause-compares g c = (
  c.read_and_compare-frames.result.0.now,
  c.read_and_compare-frames.result.1,
  c.read_and_compare-frames.result.2,
  c.read_and_compare-frames.ensures.compares,
  inl (rw (← c.unnoted.ensures) c.in-Ok.ensures.tells, c.noted.ensures.value),
)

pub returns-in-Err-clause-compares : goal.returns-in-Err-clause-compares
returns-in-Err-clause-compares g c = (
  c.read_and_compare-frames.result.0.now,
  c.read_and_compare-frames.result.1,
  c.read_and_compare-frames.result.2,
  c.read_and_compare-frames.ensures.compares,
  inr (
    c.in-Err.refusal,
    rw (← c.unnoted.ensures) c.in-Err.ensures.tells,
    c.in-Err.ensures.untold,
    refl,
  ),
)
