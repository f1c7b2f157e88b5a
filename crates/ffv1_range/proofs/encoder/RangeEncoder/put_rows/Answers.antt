-- The symbols of signed numbers, each by its row of many states.
use Rattle.std.proofs.Common.{◌∙◌, ap, subst, arith, length}
use Rattle.ffv1_range.specs.Counts.{Counts, Counted}
use Rattle.ffv1_range.specs.Writing.{Writing}
use Rattle.ffv1_range.specs.Rows.{rows_steps}
use Rattle.ffv1_range.proofs.Steps.{writes_counted}
use Rattle.ffv1_range.proofs.encoder.RangeEncoder.put_rows.Goals as goal

pub overflow_add-result : goal.overflow_add-result
overflow_add-result g c = omega (arith, c.sums_of-sums.ensures.few)

pub returns-clause-ok : goal.returns-clause-ok
returns-clause-ok g c =
    let steps = rows_steps c.args.rows.now c.args.numbers.now (length c.args.rows.now) in
    let ones = rw c.requires.long at c.sums_of-sums.ensures.ones c.args.rows.now in
    let all = rw c.requires.long at c.sums_of-sums.ensures.all c.args.rows.now in
    let counts = subst (λ (k : Counts). Counted k steps c.count.new.self.counts)
    (ap (λ (w : Writing). w.counts) c.self.view_is)
    (c.count.ensures.counts steps ones all) in
    writes_counted _ _ _ _ _ _ _ _ c.in-Ok.ensures.writes
    (ap (λ (w : Writing). w.interval) c.self.view_is)
    (ap (λ (w : Writing). w.interval) c.count.ensures.rest)
    (ap (λ (w : Writing). w.failed) c.count.ensures.rest ∙ ap (λ (w : Writing). w.failed)
    c.self.view_is) counts

pub returns-clause-long : goal.returns-clause-long
returns-clause-long g c = rw c.requires.long at c.sums_of-sums.ensures.all c.args.rows.now
