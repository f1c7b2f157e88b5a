-- A quantisation table set.
use Rattle.std.proofs.Common.{arith}
use Rattle.std.proofs.lemmas.Grind.{common_steps}
use Rattle.ffv1_record.proofs.EncoderSteps.{wrote_set}
use Rattle.ffv1_record.proofs.write.write_set.Goals as goal

pub returns-clause-ok : goal.returns-clause-ok
returns-clause-ok g c =
    wrote_set _ _ _ _ _ _ _ c.is_a_bounded_set.ensures.set.five
    (rw c.runs.ensures at c.in_ok-write_table.ensures.ok)
    (rw c.runs-2.ensures at c.in_ok-write_table-2.ensures.ok)
    (rw c.runs-3.ensures at c.in_ok-write_table-3.ensures.ok)
    (rw c.runs-4.ensures at c.in_ok-write_table-4.ensures.ok)
    (rw c.runs-5.ensures at c.in_ok-write_table-5.ensures.ok)

pub write_table-requires : goal.write_table-requires
write_table-requires g c = grind (arith, common_steps)

pub write_table-requires-2 : goal.write_table-requires-2
write_table-requires-2 g c = grind (arith, common_steps)

pub write_table-requires-3 : goal.write_table-requires-3
write_table-requires-3 g c = grind (arith, common_steps)

pub write_table-requires-4 : goal.write_table-requires-4
write_table-requires-4 g c = grind (arith, common_steps)

pub write_table-requires-5 : goal.write_table-requires-5
write_table-requires-5 g c = grind (arith, common_steps)
