-- The decisions of a list, of fewer than 2^32, by states that the table holds, by an encoder that
-- has not failed.
use Rattle.std.proofs.Common.{◌∙◌, ap, subst, arith}
use Rattle.ffv1_range.specs.Counts.{Counts, Counted}
use Rattle.ffv1_range.specs.Writing.{Writing}
use Rattle.ffv1_range.specs.Listed.{steps_of}
use Rattle.ffv1_range.proofs.Steps.{writes_counted}
use Rattle.ffv1_range.proofs.ListedSteps.{length-steps_of}
use Rattle.ffv1_range.proofs.encoder.RangeEncoder.put_all.Goals as goal

pub returns-clause-ok : goal.returns-clause-ok
returns-clause-ok g c =
    let few = c.ones_of-ones.ensures.of_all in
    let long = length-steps_of c.args.list.now in
    let counts = subst (λ (k : Counts). Counted k (steps_of c.args.list.now)
    c.count.new.self.counts) (ap (λ (w : Writing). w.counts) c.self.view_is)
    (c.count.ensures.counts (steps_of c.args.list.now) c.ones_of-ones.ensures.value
    (omega arith)) in
    writes_counted _ _ _ _ _ _ _ _ c.in-Ok.ensures.writes
    (ap (λ (w : Writing). w.interval) c.self.view_is)
    (ap (λ (w : Writing). w.interval) c.count.ensures.rest)
    (ap (λ (w : Writing). w.failed) c.count.ensures.rest ∙ ap (λ (w : Writing). w.failed)
    c.self.view_is) counts
