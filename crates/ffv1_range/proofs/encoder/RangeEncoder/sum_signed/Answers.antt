-- `sum_signed`: the same, but that its decisions are counted in `sums` and not yet in the decoder's
-- counts.
use Rattle.std.proofs.Common.{ap, refl, rules}
use Rattle.std.proofs.lemmas.Int.{to_z-of_z}
use Rattle.std.specs.Int.{w32}
use mir.Val.{SFits}
use Rattle.ffv1_range.specs.Symbols.{signed_steps}
use Rattle.ffv1_range.specs.Writing.{Writing}
use Rattle.ffv1_range.proofs.Steps.{writes_summed}
use Rattle.ffv1_range.proofs.Counting.{steps_counted}
use Rattle.ffv1_range.proofs.encoder.RangeEncoder.sum_signed.Goals as goal

pub returns-clause-ok : goal.returns-clause-ok
returns-clause-ok g c =
    let fits : SFits w32 c.args.value = search rules in
    let writes = simp to_z-of_z at c.in-Ok.ensures.writes in
    let ones = simp to_z-of_z at c.count_signed.ensures.ones in
    let zeros = simp to_z-of_z at c.count_signed.ensures.zeros in
    writes_summed _ _ _ _ _ _ _ _ _ _ _ _ writes
    (ap (λ (w : Writing). w.interval) c.self.view_is) refl
    (ap (λ (w : Writing). w.failed) c.self.view_is) (ap (λ (w : Writing). w.counts) c.self.view_is)
    ones zeros refl (steps_counted (signed_steps c.args.value))
