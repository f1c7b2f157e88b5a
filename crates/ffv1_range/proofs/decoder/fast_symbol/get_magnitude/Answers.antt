-- A number that is not zero, without its sign.
use Rattle.ffv1_range.proofs.Mantissa.{bit_is}
use Rattle.ffv1_range.proofs.Magnitudes.{none_reads, one_reads, two_reads}
use Rattle.ffv1_range.proofs.decoder.fast_symbol.get_magnitude.Goals as goal

pub returns-then-not-decide_slot-clause-reads : goal.returns-then-not-decide_slot-clause-reads
returns-then-not-decide_slot-clause-reads c = none_reads _ _ _ _ _
    c.if-not-decide_slot.ensures.reads

pub returns-then-not-decide_slot-2-clause-reads : goal.returns-then-not-decide_slot-2-clause-reads
returns-then-not-decide_slot-2-clause-reads c =
    let bit = bit_is c.choose_slot-ones.result in
    rw bit (one_reads _ _ _ _ _ _ _ _ _ c.choose_slot-ones.result c.if-not-decide_slot.ensures.reads
    c.if-not-decide_slot-2.ensures.reads c.choose_slot-ones.ensures.reads)

pub returns-in-Ok-clause-reads : goal.returns-in-Ok-clause-reads
returns-in-Ok-clause-reads c = c.in-Ok.ensures.reads _ _
    (two_reads _ _ _ _ _ _ _ c.if-not-decide_slot.ensures.reads
    c.if-not-decide_slot-2.ensures.reads)

pub returns-in-Err-clause-refused : goal.returns-in-Err-clause-refused
returns-in-Err-clause-refused c = c.in-Err.ensures.refused _ _
    (two_reads _ _ _ _ _ _ _ c.if-not-decide_slot.ensures.reads
    c.if-not-decide_slot-2.ensures.reads)
