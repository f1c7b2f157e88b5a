-- Narrows the interval by a decision, and gives out a byte where it is narrower than 256. Where a
-- growth is refused, nothing is left of the bytes.
use Rattle.std.proofs.lemmas.Grind.{common_steps}
use Rattle.std.proofs.Common.{arith}
use Rattle.ffv1_range.proofs.encoder.registers.SpanRegisters.narrow.Goals as goal

pub returns-in-Ok-clause-sound : goal.returns-in-Ok-clause-sound
returns-in-Ok-clause-sound g c = grind (arith, common_steps)
