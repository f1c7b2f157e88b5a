-- Reads the list, and then compares all pictures of the file with it.
use Rattle.std.proofs.Common.{inl, inr, refl}
use Rattle.ffv1.proofs.against.read_and_compare.Goals as goal

pub returns-in-Ok-clause-compares : goal.returns-in-Ok-clause-compares
returns-in-Ok-clause-compares g c = inl (
  c.deref.result.now,
  rw c.deref.ensures.value c.in-Ok.ensures.listed,
  c.compare-done.ensures.compares,
  refl,
  rw (c.len.ensures, c.deref.ensures.value) c.in-Ok.md5s.ok.0,
)

pub returns-in-Err-clause-compares : goal.returns-in-Err-clause-compares
returns-in-Err-clause-compares g c =
    inr (c.in-Err.refusal, c.in-Err.ensures.unlisted, refl, refl, refl)
