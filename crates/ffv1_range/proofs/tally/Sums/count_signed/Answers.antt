-- Counts the decisions of a signed number.
use Rattle.std.proofs.Common.{ℕ, ◌≡◌, ◌+◌, ◌*◌, ◌<◌, ◌≤◌, ◌^◌, ◌∙◌, refl, pos, arith, rules}
use Rattle.std.proofs.lemmas.Int.{to_z-of_z}
use Rattle.std.specs.Int.{w32}
use lib.Signed.{lt_z}
use mir.Val.{SFits}
use Rattle.ffv1_range.specs.Symbols.{exponent, signed_steps, sized_steps}
use Rattle.ffv1_range.specs.Counts.{ones_in, zeros_in}
use Rattle.ffv1_range.proofs.Prefix.{exponent_of}
use Rattle.ffv1_range.proofs.Signed.{signed_is, zero_is}
use Rattle.ffv1_range.proofs.Mantissa.{bit_is, one_if_most}
use Rattle.ffv1_range.proofs.Counting.{symbol_ones, symbol_length, steps_counted}
use Rattle.ffv1_range.proofs.tally.Sums.count_signed.Goals.{After-from}
use Rattle.ffv1_range.proofs.tally.Sums.count_signed.Goals as goal

-- the decisions of a number that is not zero
record Few (ones both e below from : ℕ) : Type 0 where
  pub ones_are : ones ≡ e + below + from
  pub both_are : both ≡ 2 * e + 3
  pub most : below + from ≤ e + 1
  pub small : e < 31

few : (c : After-from) → Few (ones_in (signed_steps c.args.value))
    (ones_in (signed_steps c.args.value) + zeros_in (signed_steps c.args.value))
    c.exponent-exponent.result c.ones_below.result c.from.result
few c =
    let fits : SFits w32 c.args.value = search rules in
    let size = simp to_z-of_z at c.unsigned_abs-number.ensures.value in
    let n = c.unsigned_abs-number.result in
    let small : n < 2 ^ 31 = rw size c.requires.size in
    let is = exponent_of n (omega (arith, c.if-number-eq0.false)) small in
    let short : exponent n < 31 = is.small in
    let few = c.ones_below.ensures.few in
    let place = c.exponent-exponent.ensures.value in
    let negative = lt_z c.args.value (pos 0) in
    let sign = (simp to_z-of_z at c.from.ensures) ∙ bit_is negative in
    let most = one_if_most negative in
    let ones = symbol_ones n (exponent n) c.ones_below.result negative refl
    c.ones_below.ensures.ones in
    let long = symbol_length n (exponent n) negative refl in
    let same = signed_is c.args.value n size c.if-number-eq0.false in
    let both = steps_counted (sized_steps n negative) in
    record {
      ones_are = rw same (omega arith);
      both_are = rw same (omega arith);
      most = omega arith;
      small = omega arith;
    }

pub count-requires : goal.count-requires
count-requires c = omega (arith, c.requires.room)

pub returns-then-number-eq0-clause-ones : goal.returns-then-number-eq0-clause-ones
returns-then-number-eq0-clause-ones c =
    let fits : SFits w32 c.args.value = search rules in
    let size = simp to_z-of_z at c.unsigned_abs-number.ensures.value in
    rw (c.count.ensures, zero_is c.args.value _ size c.if-number-eq0.true) refl

pub returns-then-number-eq0-clause-zeros : goal.returns-then-number-eq0-clause-zeros
returns-then-number-eq0-clause-zeros c =
    let fits : SFits w32 c.args.value = search rules in
    let size = simp to_z-of_z at c.unsigned_abs-number.ensures.value in
    rw (c.count.ensures, zero_is c.args.value _ size c.if-number-eq0.true) refl

pub count-requires-2 : goal.count-requires-2
count-requires-2 c =
    let few = few (goal.at.count-requires-2 c).After-from in
    omega (arith, few.most, few.small, c.requires.room)

pub returns-clause-ones : goal.returns-clause-ones
returns-clause-ones c =
    let few = few (goal.at.returns-clause-ones c).After-from in
    rw c.count-2.ensures (omega (arith, few.ones_are))

pub returns-clause-zeros : goal.returns-clause-zeros
returns-clause-zeros c =
    let few = few (goal.at.returns-clause-zeros c).After-from in
    rw c.count-2.ensures (omega (arith, few.ones_are, few.both_are, few.most))

pub returns-clause-few : goal.returns-clause-few
returns-clause-few c =
    let few = few (goal.at.returns-clause-few c).After-from in
    rw c.count-2.ensures (omega (arith, few.most, few.small))
