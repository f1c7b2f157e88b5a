-- The number of any exponent, whose highest bit is not coded.
use Rattle.std.proofs.Common.{◌≡◌, ◌+◌, ◌-◌, min, arith}
use Rattle.ffv1_range.proofs.Signed.{number_fits}
use Rattle.ffv1_range.proofs.Mantissa.{next_fits, bit_fits, bit_read}
use Rattle.ffv1_range.proofs.decoder.symbol.get_far.Goals as goal

pub overflow_mul-number : goal.overflow_mul-number
overflow_mul-number c =
    let fits = next_fits c.args.exponent c.high._place c.high.number c.requires.small (omega arith)
    c.high.invariant.below c.high.invariant.most in omega arith

pub overflow_add-number : goal.overflow_add-number
overflow_add-number c =
    let fits = bit_fits c.args.exponent c.high._place c.high.number c.from.result
    c.choose_slot.result c.requires.small (omega arith) c.high.invariant.below
    c.high.invariant.most c.from.ensures in
    omega arith

pub high-preserved : goal.high-preserved
high-preserved c =
    let slot : 31 ≡ 22 + min (c.high._place - 1) 9 =
    omega (arith, c.min-few.ensures, c.high.invariant.below, c.high-test.true) in
    let read = bit_read _ _ _ _ _ _ _ c.args.exponent c.high._place c.high.number _
    c.choose_slot.result (omega arith) c.high.invariant.below c.high.invariant.least
    c.high.invariant.most c.from.ensures c.high.invariant.reads
    (rw slot at c.choose_slot.ensures.reads) in
    record {
      held = c.choose_slot.ensures.held;
      below = omega arith;
      above = omega arith;
      least = read.least;
      most = read.most;
      reads = read.reads;
    }

pub loop-place-init : goal.loop-place-init
loop-place-init c =
    let all : c.high._place ≡ c.min-few.result =
    omega (arith, c.high-test.false, c.high.invariant.above) in
    record {
      held = c.high.invariant.held;
      below = rw all at c.high.invariant.below;
      least = rw all at c.high.invariant.least;
      most = rw all at c.high.invariant.most;
      reads = rw all at c.high.invariant.reads;
    }

pub overflow_mul-number-in-loop-place : goal.overflow_mul-number-in-loop-place
overflow_mul-number-in-loop-place c =
    let fits = next_fits c.args.exponent c.loop-place.place c.loop-place.number c.requires.small
    (omega arith)
    c.loop-place.invariant.below c.loop-place.invariant.most in omega arith

pub overflow_add-number-in-loop-place : goal.overflow_add-number-in-loop-place
overflow_add-number-in-loop-place c =
    let fits = bit_fits c.args.exponent c.loop-place.place c.loop-place.number
    c.from-in-loop-place.result c.choose_slot-in-loop-place.result c.requires.small
    (omega arith) c.loop-place.invariant.below c.loop-place.invariant.most
    c.from-in-loop-place.ensures in
    omega arith

pub loop-place-preserved : goal.loop-place-preserved
loop-place-preserved c =
    let slot : 22 + (c.loop-place.place - 1) ≡ 22 + min (c.loop-place.place - 1) 9 =
    omega (arith, c.min-few.ensures, c.loop-place.auto.place) in
    let read = bit_read _ _ _ _ _ _ _ c.args.exponent c.loop-place.place c.loop-place.number _
    c.choose_slot-in-loop-place.result (omega arith) c.loop-place.invariant.below
    c.loop-place.invariant.least
    c.loop-place.invariant.most c.from-in-loop-place.ensures c.loop-place.invariant.reads
    (rw slot at c.choose_slot-in-loop-place.ensures.reads) in
    record {
      held = c.choose_slot-in-loop-place.ensures.held;
      below = omega arith;
      least = read.least;
      most = read.most;
      reads = read.reads;
    }

pub returns-clause-reads : goal.returns-clause-reads
returns-clause-reads c =
    let all : c.args.exponent - c.loop-place.place ≡ c.args.exponent = omega arith in
    let none : c.loop-place.place ≡ 0 = omega arith in
    rw (all, none) at c.loop-place.invariant.reads

pub returns-clause-fits : goal.returns-clause-fits
returns-clause-fits c =
    let all : c.args.exponent - c.loop-place.place ≡ c.args.exponent = omega arith in
    number_fits c.args.exponent _ c.requires.small (rw all at c.loop-place.invariant.most)
