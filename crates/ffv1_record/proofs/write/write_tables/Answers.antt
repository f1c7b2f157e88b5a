-- The quantisation table sets.
use Rattle.ffv1_record.proofs.EncoderSteps.{wrote_tables}
use Rattle.ffv1_record.proofs.write.write_tables.Goals as goal

pub returns-clause-ok : goal.returns-clause-ok
returns-clause-ok g c =
    wrote_tables _ _ _ _ c.args.sets.now _ (rw c.len.ensures.count at c.in_ok-number.ensures.ok)
    c.in_ok-write_sets.ensures.ok (rw c.len-2.ensures.count at c.in_ok-write_uncoded.ensures.ok)
