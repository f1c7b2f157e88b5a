-- Reads a number.
use Rattle.std.proofs.Common.{◌∙◌, sym, ap, subst, ◌+◌, ◌<◌, ◌≤◌, ◌++◌, length, take, inl, inr}
use Rattle.std.proofs.Common.{arith}
use Rattle.std.proofs.lemmas.Bool.{cases_lt, iff_false}
use Rattle.std.specs.Int.{w32, leading_zeros}
use Rattle.ffv1_rice.specs.Bits.{binary}
use Rattle.ffv1_rice.specs.Number.{number_bits, IsShort, IsWhole}
use Rattle.ffv1_rice.proofs.Numbers.{ends_within, bad_within, short_within, whole_within}
use Rattle.ffv1_rice.proofs.Numbers.{some_above}
use Rattle.ffv1_rice.proofs.bits.Bits.read_number.Goals as goal

pub returns-then-not-has-clause-ends : goal.returns-then-not-has-clause-ends
returns-then-not-has-clause-ends c =
    let window = c.peek-window.result in
    let long = leading_zeros w32 window + 1 + c.args.k in
    let number = c.short_number-number.result in
    let is = subst (λ w. IsShort c.args.k number (take long (binary 32 w))) c.peek-window.ensures
    c.short_number-number.ensures in
    let few : long ≤ 32 = omega (arith, c.if-zeros-lt-LIMIT.true, c.requires.k) in
    let less : length c.args.self.now < long = elim (cases_lt (length c.args.self.now) long) [
      | inl less ↦ less
      | inr more ↦ absurd (iff_false c.has.ensures c.if-not-has.true more)
    ] in
    λ ends. ends_within c.args.bits c.args.k number long c.args.self.now few less (inl is)

pub returns-then-number-bits-ne0-clause-bad : goal.returns-then-number-bits-ne0-clause-bad
returns-then-number-bits-ne0-clause-bad c =
    let window = c.peek-window.result in
    let long = leading_zeros w32 window + 1 + c.args.k in
    let number = c.short_number-number.result in
    let is = subst (λ w. IsShort c.args.k number (take long (binary 32 w))) c.peek-window.ensures
    c.short_number-number.ensures in
    let few : long ≤ 32 = omega (arith, c.if-zeros-lt-LIMIT.true, c.requires.k) in
    let within = c.has.ensures.0 c.if-not-has.false in
    λ bad. bad_within c.args.bits c.args.k number long c.args.self.now few within (inl is)
    (inl (some_above c.args.bits number c.if-number-bits-ne0.true))

pub returns-then-zeros-lt-LIMIT-clause-ok : goal.returns-then-zeros-lt-LIMIT-clause-ok
returns-then-zeros-lt-LIMIT-clause-ok c =
    let window = c.peek-window.result in
    let long = leading_zeros w32 window + 1 + c.args.k in
    let number = c.short_number-number.result in
    let is = subst (λ w. IsShort c.args.k number (take long (binary 32 w))) c.peek-window.ensures
    c.short_number-number.ensures in
    let few : long ≤ 32 = omega (arith, c.if-zeros-lt-LIMIT.true, c.requires.k) in
    let within = c.has.ensures.0 c.if-not-has.false in
    short_within c.args.bits c.args.k number long c.args.self.now few within is
    ∙ ap (λ rest. number_bits c.args.bits c.args.k number ++ rest) (sym c.skip.ensures)

pub returns-then-not-has-2-clause-ends : goal.returns-then-not-has-2-clause-ends
returns-then-not-has-2-clause-ends c =
    let long = 12 + c.args.bits in
    let number = c.whole_number-number.result in
    let is = subst (λ w. IsWhole c.args.bits number (take long (binary 32 w))) c.peek-window.ensures
    c.whole_number-number.ensures in
    let few : long ≤ 32 = omega (arith, c.requires.bits) in
    let less : length c.args.self.now < long = elim (cases_lt (length c.args.self.now) long) [
      | inl less ↦ less
      | inr more ↦ absurd (iff_false c.has-2.ensures c.if-not-has-2.true more)
    ] in
    λ ends. ends_within c.args.bits c.args.k number long c.args.self.now few less (inr is)

pub returns-then-number-bits-ne0-2-clause-bad : goal.returns-then-number-bits-ne0-2-clause-bad
returns-then-number-bits-ne0-2-clause-bad c =
    let long = 12 + c.args.bits in
    let number = c.whole_number-number.result in
    let is = subst (λ w. IsWhole c.args.bits number (take long (binary 32 w))) c.peek-window.ensures
    c.whole_number-number.ensures in
    let few : long ≤ 32 = omega (arith, c.requires.bits) in
    let within = c.has-2.ensures.0 c.if-not-has-2.false in
    λ bad. bad_within c.args.bits c.args.k number long c.args.self.now few within (inr is)
    (inl (some_above c.args.bits number c.if-number-bits-ne0-2.true))

pub returns-then-number-k-lt-LIMIT-clause-bad : goal.returns-then-number-k-lt-LIMIT-clause-bad
returns-then-number-k-lt-LIMIT-clause-bad c =
    let long = 12 + c.args.bits in
    let number = c.whole_number-number.result in
    let is = subst (λ w. IsWhole c.args.bits number (take long (binary 32 w))) c.peek-window.ensures
    c.whole_number-number.ensures in
    let few : long ≤ 32 = omega (arith, c.requires.bits) in
    let within = c.has-2.ensures.0 c.if-not-has-2.false in
    λ bad. bad_within c.args.bits c.args.k number long c.args.self.now few within (inr is)
    (inr (c.if-number-k-lt-LIMIT.true, is))

pub returns-clause-ok : goal.returns-clause-ok
returns-clause-ok c =
    let long = 12 + c.args.bits in
    let number = c.whole_number-number.result in
    let is = subst (λ w. IsWhole c.args.bits number (take long (binary 32 w))) c.peek-window.ensures
    c.whole_number-number.ensures in
    let few : long ≤ 32 = omega (arith, c.requires.bits) in
    let within = c.has-2.ensures.0 c.if-not-has-2.false in
    whole_within c.args.bits c.args.k number long c.args.self.now few within is
    c.if-number-k-lt-LIMIT.false
    ∙ ap (λ rest. number_bits c.args.bits c.args.k number ++ rest) (sym c.skip-2.ensures)
