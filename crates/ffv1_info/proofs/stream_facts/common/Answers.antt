-- The greatest common divisor of two numbers above 0.
use Rattle.std.proofs.Common.{arith, sym}
use Rattle.std.proofs.lemmas.Nat.Gcd.{IsGcd-from_mod, IsGcd-from_zero, le_of_dvd}
use Rattle.ffv1_matroska.proofs.Divisors.{common_is}
use Rattle.ffv1_info.proofs.stream_facts.common.Goals as goal

pub loop-y-preserved : goal.loop-y-preserved
loop-y-preserved c = (
  λ g is. c.loop-y.invariant.0 g (IsGcd-from_mod c.loop-y.x c.loop-y.y g is),
  omega (arith, c.loop-y-test.true),
)

pub returns-clause-value : goal.returns-clause-value
returns-clause-value c =
    let is = c.loop-y.invariant.0 c.loop-y.x (IsGcd-from_zero c.loop-y.x c.loop-y.y
    (omega (arith, c.loop-y-test.false))) in
    sym (common_is c.args.a c.args.b c.loop-y.x c.args.b c.loop-y.invariant.1 is
    (le_of_dvd c.requires.second is.1))
