-- The number of an exponent below 10, whose highest bit is not coded: each of its bits has a slot
-- of its own.
use Rattle.std.proofs.Common.{◌≡◌, ◌+◌, ◌-◌, min, arith}
use Rattle.ffv1_range.proofs.Signed.{number_fits}
use Rattle.ffv1_range.proofs.Mantissa.{next_fits, bit_fits, bit_read}
use Rattle.ffv1_range.proofs.decoder.symbol.get_near.Goals as goal

pub overflow_mul-number : goal.overflow_mul-number
overflow_mul-number c =
    let fits = next_fits c.args.exponent c.loop-place.place c.loop-place.number
    (omega (arith, c.requires.small)) (omega arith)
    c.loop-place.invariant.below c.loop-place.invariant.most in omega arith

pub overflow_add-number : goal.overflow_add-number
overflow_add-number c =
    let fits = bit_fits c.args.exponent c.loop-place.place c.loop-place.number c.from.result
    c.choose_slot.result (omega (arith, c.requires.small)) (omega arith)
    c.loop-place.invariant.below c.loop-place.invariant.most c.from.ensures in
    omega arith

pub loop-place-preserved : goal.loop-place-preserved
loop-place-preserved c =
    let slot : 22 + (c.loop-place.place - 1) ≡ 22 + min (c.loop-place.place - 1) 9 =
    omega (arith, c.requires.small, c.loop-place.invariant.below) in
    let read = bit_read _ _ _ _ _ _ _ c.args.exponent c.loop-place.place c.loop-place.number _
    c.choose_slot.result (omega arith) c.loop-place.invariant.below c.loop-place.invariant.least
    c.loop-place.invariant.most c.from.ensures c.loop-place.invariant.reads
    (rw slot at c.choose_slot.ensures.reads) in
    record {
      held = c.choose_slot.ensures.held;
      below = omega arith;
      least = read.least;
      most = read.most;
      reads = read.reads;
    }

pub returns-clause-reads : goal.returns-clause-reads
returns-clause-reads c =
    let all : c.args.exponent - c.loop-place.place ≡ c.args.exponent = omega arith in
    let none : c.loop-place.place ≡ 0 = omega arith in
    rw (all, none) at c.loop-place.invariant.reads

pub returns-clause-fits : goal.returns-clause-fits
returns-clause-fits c =
    let all : c.args.exponent - c.loop-place.place ≡ c.args.exponent = omega arith in
    number_fits c.args.exponent _ (omega (arith, c.requires.small))
    (rw all at c.loop-place.invariant.most)
