-- An exponent.
use Rattle.std.proofs.Common.{◌≡◌, min, arith}
use Rattle.ffv1_range.proofs.Steps.{reads_append, reads_none, raising-add-one, raising-zero}
use Rattle.ffv1_range.proofs.decoder.symbol.get_exponent.Goals as goal

pub near-init : goal.near-init
near-init c = record { held = c.requires; reads = rw raising-zero (reads_none _ _ _) }

pub returns-then-not-decide_slot-clause-reads : goal.returns-then-not-decide_slot-clause-reads
returns-then-not-decide_slot-clause-reads c =
    let own : min c.near.exponent 9 ≡ c.near.exponent = omega arith in
    rw own (reads_append _ _ _ _ _ _ _ _ _ c.near.invariant.reads
    c.if-not-decide_slot.ensures.reads)

pub near-preserved : goal.near-preserved
near-preserved c =
    let own : min c.near.exponent 9 ≡ c.near.exponent = omega arith in
    record {
      held = c.decide_slot.ensures.held;
      reads = rw (raising-add-one, own) (reads_append _ _ _ _ _ _ _ _ _ c.near.invariant.reads
          c.if-not-decide_slot.ensures.reads);
    }

pub far-init : goal.far-init
far-init c =
    let all : c.near.exponent ≡ 10 = omega arith in
    record { held = c.near.invariant.held; reads = rw all at c.near.invariant.reads }

pub returns-then-not-decide_slot-2-clause-reads : goal.returns-then-not-decide_slot-2-clause-reads
returns-then-not-decide_slot-2-clause-reads c =
    let last : min c.far.exponent 9 ≡ 9 = omega arith in
    rw last (reads_append _ _ _ _ _ _ _ _ _ c.far.invariant.reads
    c.if-not-decide_slot-2.ensures.reads)

pub far-preserved : goal.far-preserved
far-preserved c =
    let last : min c.far.exponent 9 ≡ 9 = omega arith in
    record {
      held = c.decide_slot-in-far.ensures.held;
      reads = rw (raising-add-one, last) (reads_append _ _ _ _ _ _ _ _ _ c.far.invariant.reads
          c.if-not-decide_slot-2.ensures.reads);
    }

pub returns-clause-refused : goal.returns-clause-refused
returns-clause-refused c =
    let all : c.far.exponent ≡ 31 = omega arith in
    rw all at c.far.invariant.reads
