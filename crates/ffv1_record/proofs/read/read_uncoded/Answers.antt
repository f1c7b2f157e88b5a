-- That no set's initial states are coded.
use Rattle.std.proofs.Common.{◌≡◌, ◌-◌, arith}
use Rattle.ffv1_record.proofs.ReadingLoops.{leads_none, uncoded_next, uncoded_refuse, uncoded_end}
use Rattle.ffv1_record.proofs.read.read_uncoded.Goals as goal

pub returns-then-truth-clause-gives : goal.returns-then-truth-clause-gives
returns-then-truth-clause-gives c = uncoded_refuse _ _ _ _ _ _ c.loop-index-test.true
    c.loop-index.invariant c.if-truth.ensures

pub loop-index-init : goal.loop-index-init
loop-index-init c =
    let all : c.args.count - 0 ≡ c.args.count = omega arith in
    rw all (leads_none _ _)

pub loop-index-preserved : goal.loop-index-preserved
loop-index-preserved c = uncoded_next _ _ _ _ _ _ c.loop-index-test.true c.loop-index.invariant
    c.if-truth.ensures

pub returns-clause-gives : goal.returns-clause-gives
returns-clause-gives c =
    let end : c.loop-index._index ≡ c.args.count = omega arith in
    uncoded_end _ _ _ _ (rw end at c.loop-index.invariant)
