-- So many nanoseconds times a power of two.
use Rattle.std.proofs.Common.{◌∙◌, ap, sym, arith}
use Rattle.ffv1_outline.specs.Durations.{fitting, rounded}
use Rattle.ffv1_outline.proofs.DurationLemmas.{high_bits, high_power, low_bits, many_fit_not}
use Rattle.ffv1_outline.proofs.DurationLemmas.{none_fits, shifted}
use Rattle.ffv1_outline.proofs.durations.raised.Goals as goal

pub returns-then-nanoseconds-eq0 : goal.returns-then-nanoseconds-eq0
returns-then-nanoseconds-eq0 c = rw c.if-nanoseconds-eq0.true (sym (none_fits c.args.power))

pub returns-then-power-gt84 : goal.returns-then-power-gt84
returns-then-power-gt84 c =
    sym (many_fit_not _ (high_power c.args.nanoseconds c.args.power
    (omega (arith, c.if-nanoseconds-eq0.false)) (omega (arith, c.if-power-gt84.true))))

pub returns-then-nanoseconds-power-ne0 : goal.returns-then-nanoseconds-power-ne0
returns-then-nanoseconds-power-ne0 c =
    sym (many_fit_not _ (high_bits c.args.nanoseconds c.args.power
    (omega (arith, c.if-power-gt84.false)) c.if-nanoseconds-power-ne0.true))

pub rounded-requires-clause-number : goal.rounded-requires-clause-number
rounded-requires-clause-number c =
    let few = low_bits c.args.nanoseconds c.args.power (omega (arith, c.if-power-gt84.false))
    c.if-nanoseconds-power-ne0.false in
    rw (shifted c.args.nanoseconds c.args.power few) (omega (arith, few))

pub returns : goal.returns
returns c =
    let few = low_bits c.args.nanoseconds c.args.power (omega (arith, c.if-power-gt84.false))
    c.if-nanoseconds-power-ne0.false in
    c.fitting.ensures ∙ ap fitting (c.rounded.ensures
    ∙ ap (λ z. rounded z 1000000) (shifted c.args.nanoseconds c.args.power few))
