-- How long `significand` * 2 ^ `power` / 2 ^ `bias` times `scale` nanoseconds are.
use Rattle.std.proofs.Common.{◌≡◌, ◌*◌, ◌-◌, ◌^◌, ◌∙◌, ap, refl, sym, arith}
use Rattle.ffv1_outline.specs.Durations.{fitting, rounded, scaled}
use Rattle.ffv1_outline.proofs.DurationLemmas.{rounded_lowered, rounded_raised}
use Rattle.ffv1_outline.proofs.durations.scaled.Goals as goal

pub returns-then-bias-power : goal.returns-then-bias-power
unfolding scaled
returns-then-bias-power c =
    let product : c.from.result * c.from-2.result ≡ c.args.significand * c.args.scale =
    rw (c.from.ensures, c.from-2.ensures) refl in
    c.raised.ensures ∙ ap fitting (ap (λ z. rounded (z * 2 ^ (c.args.power - c.args.bias)) 1000000)
    product ∙ sym (rounded_raised (c.args.significand * c.args.scale) 1000000
    c.args.power c.args.bias (omega (arith, c.if-bias-power.true))))

pub returns-else-bias-power : goal.returns-else-bias-power
unfolding scaled
returns-else-bias-power c =
    let product : c.from.result * c.from-2.result ≡ c.args.significand * c.args.scale =
    rw (c.from.ensures, c.from-2.ensures) refl in
    c.lowered.ensures ∙ ap fitting (ap (λ z. rounded z (1000000 * 2 ^ (c.args.bias - c.args.power)))
    product ∙ sym (rounded_lowered (c.args.significand * c.args.scale) 1000000
    c.args.power c.args.bias (omega (arith, c.if-bias-power.false))))
