-- A truth value.
use Rattle.std.proofs.Common.{refl, arith}
use Rattle.std.proofs.lemmas.Grind.{common_steps}
use Rattle.ffv1_record.proofs.EncoderSteps.{wrote_steps}
use Rattle.ffv1_record.proofs.writer.RecordWriter.truth.Goals as goal

pub returns-clause-ok : goal.returns-clause-ok
returns-clause-ok g c = rw (← c.self.view_is) (wrote_steps _ _ _ _ _ c.self.told (omega arith, tt)
    (rw c.self.invariant.0 at (c.in-Ok.ensures.puts c.self.inside.states 0 refl)))

pub invariant_of-self-2 : goal.invariant_of-self-2
invariant_of-self-2 g c = grind (arith, common_steps)
