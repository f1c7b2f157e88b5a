-- The lowest bits of a number, from the highest of them down.
use Rattle.std.proofs.Common.{◌≡◌, ◌+◌, ◌-◌, ◌<◌, min, arith}
use Rattle.ffv1_range.proofs.Steps.{writes_append}
use Rattle.ffv1_range.proofs.Mantissa.{longer, mantissa_next}
use Rattle.ffv1_range.proofs.Growth.{on_err, mantissa_grows}
use Rattle.ffv1_range.proofs.encoder.symbol.put_mantissa.Goals as goal

pub high-preserved : goal.high-preserved
high-preserved g c =
    let positive : 0 < c.high.place = omega arith in
    let slot : 31 ≡ 22 + min (c.high.place - 1) 9 =
    omega (arith, c.min-few.ensures, c.high.invariant.below, c.high-test.true) in
    let more = longer c.args.exponent c.high.place positive c.high.invariant.below in
    record {
      held = c.put_slot.ensures.held;
      sound = c.put_slot.ensures.sound;
      grown = omega (arith, c.high.invariant.grown, c.in_ok-put_slot.ensures.grown);
      below = omega arith;
      above = omega arith;
      writes = rw (more, mantissa_next) (writes_append _ _ _ _ _ _ _ _ _ c.high.invariant.writes
          (rw slot at c.in_ok-put_slot.ensures.writes));
    }

pub loop-place-init : goal.loop-place-init
loop-place-init g c =
    let all : c.high.place ≡ c.min-few.result =
    omega (arith, c.high-test.false, c.high.invariant.above) in
    record {
      held = c.high.invariant.held;
      sound = c.high.invariant.sound;
      grown = c.high.invariant.grown;
      below = rw all at c.high.invariant.below;
      writes = rw all at c.high.invariant.writes;
    }

pub loop-place-preserved : goal.loop-place-preserved
loop-place-preserved g c =
    let positive : 0 < c.loop-place.place = omega arith in
    let slot : 22 + (c.loop-place.place - 1) ≡ 22 + min (c.loop-place.place - 1) 9 =
    omega (arith, c.min-few.ensures, c.loop-place.auto.place) in
    let more = longer c.args.exponent c.loop-place.place positive c.loop-place.invariant.below in
    record {
      held = c.put_slot-in-loop-place.ensures.held;
      sound = c.put_slot-in-loop-place.ensures.sound;
      grown = omega (arith, c.loop-place.invariant.grown, c.in_ok-put_slot-2.ensures.grown);
      below = omega arith;
      writes = rw (more, mantissa_next) (writes_append _ _ _ _ _ _ _ _ _
          c.loop-place.invariant.writes (rw slot at c.in_ok-put_slot-2.ensures.writes));
    }

pub returns-in_err-put_slot-clause-refused : goal.returns-in_err-put_slot-clause-refused
returns-in_err-put_slot-clause-refused g c =
    let positive : 0 < c.high.place = omega arith in
    let slot : 31 ≡ 22 + min (c.high.place - 1) 9 =
    omega (arith, c.min-few.ensures, c.high.invariant.below, c.high-test.true) in
    on_err c.from_residual.result (mantissa_grows _ _ _ _ _ c.args.exponent c.high.place
    c.args.number positive c.high.invariant.below c.high.invariant.writes
    (rw slot at c.in_err-put_slot.ensures.refused))

pub returns-in_err-put_slot-2-clause-refused : goal.returns-in_err-put_slot-2-clause-refused
returns-in_err-put_slot-2-clause-refused g c =
    let positive : 0 < c.loop-place.place = omega arith in
    let slot : 22 + (c.loop-place.place - 1) ≡ 22 + min (c.loop-place.place - 1) 9 =
    omega (arith, c.min-few.ensures, c.loop-place.auto.place) in
    on_err c.from_residual-in_err-put_slot-2.result
    (mantissa_grows _ _ _ _ _ c.args.exponent c.loop-place.place c.args.number positive
    c.loop-place.invariant.below c.loop-place.invariant.writes
    (rw slot at c.in_err-put_slot-2.ensures.refused))
