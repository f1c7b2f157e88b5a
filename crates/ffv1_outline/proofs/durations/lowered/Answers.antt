-- So many nanoseconds divided by a power of two.
use Rattle.std.proofs.Common.{◌∙◌, ap, sym, arith}
use Rattle.ffv1_outline.specs.Durations.{fitting, rounded}
use Rattle.ffv1_outline.proofs.DurationLemmas.{divisor_fits, little_rounds}
use Rattle.ffv1_outline.proofs.durations.lowered.Goals as goal

pub returns-then-power-gt100 : goal.returns-then-power-gt100
returns-then-power-gt100 c =
    sym (little_rounds c.args.nanoseconds c.args.power c.requires (omega (arith, c.if-power-gt100.true)))

pub rounded-requires-clause-some : goal.rounded-requires-clause-some
rounded-requires-clause-some c =
    let d = divisor_fits c.args.power (omega (arith, c.if-power-gt100.false)) in
    rw d.1 d.2

pub rounded-requires-clause-divisor : goal.rounded-requires-clause-divisor
rounded-requires-clause-divisor c =
    let d = divisor_fits c.args.power (omega (arith, c.if-power-gt100.false)) in
    rw d.1 (omega (arith, d.0))

pub returns : goal.returns
returns c =
    let d = divisor_fits c.args.power (omega (arith, c.if-power-gt100.false)) in
    c.fitting.ensures ∙ ap fitting (c.rounded.ensures ∙ ap (rounded c.args.nanoseconds) d.1)
