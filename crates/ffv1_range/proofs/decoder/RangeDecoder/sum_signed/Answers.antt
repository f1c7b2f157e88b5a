-- `sum_signed`: the same, but that its decisions are counted in `sums` and not yet in the decoder's
-- counts.
use Rattle.std.proofs.Common.{◌≡◌, ◌<◌, ◌∙◌, Bool, true, false, ap, refl, sym, pos, ◌-ℤ◌, arith}
use Rattle.ffv1_range.specs.Weight.{one_if}
use Rattle.ffv1_range.specs.Signed.{signed_by}
use Rattle.ffv1_range.specs.Symbols.{exponent, signed_steps}
use Rattle.ffv1_range.specs.Reading.{summed}
use Rattle.ffv1_range.specs.Follows.{Follows}
use Rattle.ffv1_range.proofs.Mantissa.{bit_is, one_if_most}
use Rattle.std.proofs.lemmas.Int.{ints}
use Rattle.std.specs.Int.{w32}
use mir.Val.{to_z, of_z}
use Rattle.std.proofs.Math.Pow.{pow_pos}
use Rattle.ffv1_range.proofs.Exponents.{exponent_is}
use Rattle.ffv1_range.proofs.Signed.{sized_reads, sized_signed}
use Rattle.ffv1_range.proofs.Steps.{reads_summed, reads_append}
use Rattle.ffv1_range.proofs.Counting.{symbol_ones, symbol_length, too_long_ones, too_long_length}
use Rattle.ffv1_range.proofs.decoder.RangeDecoder.sum_signed.Goals.{After-ones_below-ones}
use Rattle.ffv1_range.proofs.decoder.RangeDecoder.sum_signed.Goals.{After-count-2}
use Rattle.ffv1_range.proofs.decoder.RangeDecoder.sum_signed.Goals as goal

-- the exponent that was read is the number's
place : (c : After-ones_below-ones) → exponent c.get_mantissa-number.result ≡ c.in-Ok.exponent
place c = exponent_is c.in-Ok.exponent c.get_mantissa-number.result
    c.get_mantissa-number.ensures.least c.get_mantissa-number.ensures.most

-- the symbol of a number with this sign was read
follows : (c : After-count-2) → exponent c.get_mantissa-number.result ≡ c.in-Ok.exponent →
    (negative : Bool) → c.choose_slot-negative.result ≡ negative →
    Follows c.args.table.now (summed c.args.self.now c.args.sums.now) c.args.states.now
    (summed c.choose_slot-negative.new.decoder c.count-2.new.self)
    c.choose_slot-negative.new.states
    (signed_steps (signed_by c.get_mantissa-number.result negative))
follows c place negative is =
    let power = pow_pos c.in-Ok.exponent in
    let positive : 0 < c.get_mantissa-number.result =
    omega (arith, c.get_mantissa-number.ensures.least) in
    let sign = c.from.ensures ∙ bit_is c.choose_slot-negative.result ∙ ap one_if is in
    let most = one_if_most negative in
    let ones = symbol_ones _ _ c.ones_below-ones.result negative place
    (rw place at c.ones_below-ones.ensures.ones) in
    let long = symbol_length c.get_mantissa-number.result _ negative place in
    let few = c.ones_below-ones.ensures.few in
    let last = rw (c.sign_slot.ensures, is) at c.choose_slot-negative.ensures.reads in
    let reads = sized_reads _ _ _ _ _ _ _ _ _ _ _ c.in-Ok.exponent _ _ c.in-Ok.ensures.small
    c.get_mantissa-number.ensures.least c.get_mantissa-number.ensures.most
    c.if-decide_slot.ensures.reads c.in-Ok.ensures.reads c.get_mantissa-number.ensures.reads last in
    rw (sized_signed c.get_mantissa-number.result negative positive)
    (reads_summed _ _ _ _ _ _ _ _ _ _ reads c.count-2.ensures (omega arith) (omega arith))

pub returns-then-decide_slot-clause-follows : goal.returns-then-decide_slot-clause-follows
returns-then-decide_slot-clause-follows c =
    reads_summed _ _ _ _ _ _ _ _ 1 0 c.if-decide_slot.ensures.reads c.count.ensures refl refl

pub returns-in_default-clause-refused : goal.returns-in_default-clause-refused
returns-in_default-clause-refused c = (
  refl,
  reads_summed _ _ _ _ _ _ _ _ 31 1 (reads_append _ _ _ _ _ _ _ _ _ c.if-decide_slot.ensures.reads
      c.in_default.ensures.refused) c.count-in_default.ensures
      (sym too_long_ones) (sym too_long_length),
)

pub returns-then-negative-clause-follows : goal.returns-then-negative-clause-follows
returns-then-negative-clause-follows c =
    let here = goal.at.returns-then-negative-clause-follows c in
    let is : to_z w32 (of_z w32 (pos 0 -ℤ to_z w32 c.get_mantissa-number.result)) ≡ pos 0 -ℤ pos
    c.get_mantissa-number.result = omega (arith, ints) in
    rw is (follows here.After-count-2 (place here.After-ones_below-ones) true c.if-negative.true)

pub returns-clause-follows : goal.returns-clause-follows
returns-clause-follows c =
    let here = goal.at.returns-clause-follows c in
    let is : to_z w32 c.get_mantissa-number.result ≡ pos c.get_mantissa-number.result =
    omega (arith, ints) in
    rw is (follows here.After-count-2 (place here.After-ones_below-ones) false c.if-negative.false)

pub overflow_sub-exponent : goal.overflow_sub-exponent
overflow_sub-exponent c =
    let place = place (goal.at.overflow_sub-exponent c).After-ones_below-ones in
    let few = c.ones_below-ones.ensures.few in
    let sign = c.from.ensures ∙ bit_is c.choose_slot-negative.result in
    let most = one_if_most c.choose_slot-negative.result in
    omega arith
