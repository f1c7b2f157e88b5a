-- An exponent.
use Rattle.std.proofs.Common.{◌≡◌, ◌+◌, min, arith}
use Rattle.ffv1_range.proofs.Steps.{writes_append, writes_none, raising-add-one, raising-zero}
use Rattle.ffv1_range.proofs.Growth.{on_err, exponent_grows, grows_second}
use Rattle.ffv1_range.proofs.encoder.symbol.put_exponent.Given.{Over}
use Rattle.ffv1_range.proofs.encoder.symbol.put_exponent.Goals.{After-put_slot}
use Rattle.ffv1_range.proofs.encoder.symbol.put_exponent.Goals.{After-put_slot-in-more}
use Rattle.ffv1_range.proofs.encoder.symbol.put_exponent.Goals.{After-put_slot-2}
use Rattle.ffv1_range.proofs.encoder.symbol.put_exponent.Goals as goal

-- the slots of the first nine decisions, of those that follow, and of the last
slot : (g : Over) (c : After-put_slot g) → 1 + c.loop-k.k ≡ 1 + min c.loop-k.k 9
slot g c = omega (arith, c.min-few.ensures, c.loop-k-test.true)

slot_more : (g : Over) (c : After-put_slot-in-more g) → 10 ≡ 1 + min c.more._k 9
slot_more g c = omega (arith, c.min-few.ensures, c.more.auto._k, c.more-test.true)

module _ (g : Over) (c : After-put_slot-2 g) where
  all : c.more._k ≡ c.args.exponent
  all = omega (
    arith,
    c.min-few.ensures,
    c.more.auto._k,
    c.more.auto._k-end,
    c.more-test.false,
  )

  slot_last : 1 + c.min-few.result ≡ 1 + min c.args.exponent 9
  slot_last = omega (arith, c.min-few.ensures)

pub loop-k-init : goal.loop-k-init
loop-k-init g c = record {
  held = c.requires.held;
  sound = c.requires.sound;
  grown = omega arith;
  writes =
      rw raising-zero (writes_none _ _ _);
}

pub loop-k-preserved : goal.loop-k-preserved
loop-k-preserved g c =
    let slot = slot g (goal.at.loop-k-preserved g c).After-put_slot in
    record {
      held = c.put_slot.ensures.held;
      sound = c.put_slot.ensures.sound;
      grown = omega (arith, c.loop-k.invariant.grown, c.in_ok-put_slot.ensures.grown);
      writes = rw raising-add-one (writes_append _ _ _ _ _ _ _ _ _ c.loop-k.invariant.writes
          (rw slot at c.in_ok-put_slot.ensures.writes));
    }

pub more-preserved : goal.more-preserved
more-preserved g c =
    let slot = slot_more g (goal.at.more-preserved g c).After-put_slot-in-more in
    record {
      held = c.put_slot-in-more.ensures.held;
      sound = c.put_slot-in-more.ensures.sound;
      grown = omega (arith, c.more.invariant.grown, c.in_ok-put_slot-2.ensures.grown);
      writes = rw raising-add-one (writes_append _ _ _ _ _ _ _ _ _ c.more.invariant.writes
          (rw slot at c.in_ok-put_slot-2.ensures.writes));
    }

pub returns-clause-writes : goal.returns-clause-writes
returns-clause-writes g c =
    let here = (goal.at.returns-clause-writes g c).After-put_slot-2 in
    writes_append _ _ _ _ _ _ _ _ _ (rw (all g here) at c.more.invariant.writes)
    (rw (slot_last g here) at c.in_ok-put_slot-3.ensures.writes)

pub returns-in_err-put_slot-clause-refused : goal.returns-in_err-put_slot-clause-refused
returns-in_err-put_slot-clause-refused g c =
    let slot = slot g (goal.at.returns-in_err-put_slot-clause-refused g c).After-put_slot in
    on_err c.from_residual.result (exponent_grows _ _ _ _ _ c.loop-k.k c.args.exponent (omega arith)
    c.loop-k.invariant.writes (rw slot at c.in_err-put_slot.ensures.refused))

pub returns-in_err-put_slot-2-clause-refused : goal.returns-in_err-put_slot-2-clause-refused
returns-in_err-put_slot-2-clause-refused g c =
    let slot = slot_more g (goal.at.returns-in_err-put_slot-2-clause-refused g
    c).After-put_slot-in-more in
    on_err c.from_residual-in_err-put_slot-2.result
    (exponent_grows _ _ _ _ _ c.more._k c.args.exponent (omega arith) c.more.invariant.writes
    (rw slot at c.in_err-put_slot-2.ensures.refused))

pub returns-in_err-put_slot-3-clause-refused : goal.returns-in_err-put_slot-3-clause-refused
returns-in_err-put_slot-3-clause-refused g c =
    let here = (goal.at.returns-in_err-put_slot-3-clause-refused g c).After-put_slot-2 in
    on_err c.from_residual-in_err-put_slot-3.result
    (grows_second _ _ _ _ _ _ _ (rw (all g here) at c.more.invariant.writes)
    (rw (slot_last g here) at c.in_err-put_slot-3.ensures.refused))
