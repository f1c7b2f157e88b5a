-- That no set's initial states are coded.
use Rattle.std.proofs.Common.{sym, add-one}
use Rattle.ffv1_record.proofs.EncoderSteps.{wrote_on, wrote_as, uncoded_last}
use Rattle.ffv1_record.proofs.write.write_uncoded.Goals as goal

pub loop-index-preserved : goal.loop-index-preserved
loop-index-preserved g c = rw (add-one c.loop-index._index)
    (wrote_as _ _ (sym (uncoded_last c.loop-index._index))
    (wrote_on _ _ c.loop-index.invariant c.in_ok-truth.ensures.ok))
