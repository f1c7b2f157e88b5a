-- The symbol of a number without a sign, below 2^31, by 32 states that the table holds.
use Rattle.std.proofs.Common.{◌<◌, ◌∙◌, ap, subst, refl, arith}
use Rattle.ffv1_range.specs.Counts.{Counts, Counted}
use Rattle.ffv1_range.specs.Symbols.{exponent, magnitude_steps}
use Rattle.ffv1_range.specs.Writing.{Writing}
use Rattle.ffv1_range.proofs.Signed.{unsigned_is, unsigned_zero}
use Rattle.ffv1_range.proofs.Steps.{writes_counted}
use Rattle.ffv1_range.proofs.Counting.{magnitude_ones, magnitude_length}
use Rattle.ffv1_range.proofs.encoder.RangeEncoder.put_unsigned.Goals as goal

pub returns-then-number-eq0-clause-ok : goal.returns-then-number-eq0-clause-ok
returns-then-number-eq0-clause-ok g c =
    let zero = unsigned_zero c.args.number c.if-number-eq0.true in
    let counts = subst (λ (k : Counts). Counted k _ c.count.new.self.counts)
    (ap (λ (w : Writing). w.counts) c.self.view_is) (c.count.ensures.counts _ refl refl) in
    rw zero
    (writes_counted _ _ _ _ _ _ _ _ (rw zero at c.in-Ok.ensures.writes)
    (ap (λ (w : Writing). w.interval) c.self.view_is)
    (ap (λ (w : Writing). w.interval) c.count.ensures.rest)
    (ap (λ (w : Writing). w.failed) c.count.ensures.rest ∙ ap (λ (w : Writing). w.failed)
    c.self.view_is) counts)

pub returns-clause-ok : goal.returns-clause-ok
returns-clause-ok g c =
    let positive : 0 < c.args.number = omega (arith, c.if-number-eq0.false) in
    let few = c.ones_below.ensures.few in
    let place = c.exponent-exponent.ensures.value in
    let ones = magnitude_ones c.args.number (exponent c.args.number) c.ones_below.result refl
    c.ones_below.ensures.ones in
    let long = magnitude_length c.args.number (exponent c.args.number) refl in
    let same = unsigned_is c.args.number positive in
    let counts = subst (λ (k : Counts). Counted k (magnitude_steps c.args.number)
    c.count-2.new.self.counts) (ap (λ (w : Writing). w.counts) c.self.view_is)
    (c.count-2.ensures.counts (magnitude_steps c.args.number) (omega arith) (omega arith)) in
    rw same
    (writes_counted _ _ _ _ _ _ _ _ (rw same at c.in-Ok.ensures.writes)
    (ap (λ (w : Writing). w.interval) c.self.view_is)
    (ap (λ (w : Writing). w.interval) c.count-2.ensures.rest)
    (ap (λ (w : Writing). w.failed) c.count-2.ensures.rest ∙ ap (λ (w : Writing). w.failed)
    c.self.view_is) counts)
