-- The same, with the interval in locals.
use Rattle.std.proofs.Common.{arith, subst, rules, ◌≡◌}
use Rattle.ffv1_range.specs.Internal.Registers.{interval_from, interval_marked}
use Rattle.ffv1_range.specs.Puts.{Grows}
use Rattle.std.proofs.Common.{length}
use Rattle.ffv1_range.specs.Rows.{rows_steps}
use Rattle.ffv1_range.proofs.Growth.{on_err, writes_by, grows_by}
use Rattle.ffv1_range.proofs.encoder.rows.put_all_rows.Given.{Over}
use Rattle.ffv1_range.proofs.encoder.rows.put_all_rows.Goals.{After-mark-marked}
use Rattle.ffv1_range.proofs.encoder.rows.put_all_rows.Goals as goal

-- where no byte is held back, the interval is the encoder's
begun : (g : Over) (c : After-mark-marked g) → interval_marked c.args.bytes.now.items
    c.mark-marked.result.low c.mark-marked.result.width ≡ interval_from c.args.bytes.now.items
    c.args.span.now.low c.args.span.now.width
begun g c = search rules

pub returns-in_err-put_each-clause-refused : goal.returns-in_err-put_each-clause-refused
returns-in_err-put_each-clause-refused g c =
    let begun = begun g (goal.at.returns-in_err-put_each-clause-refused g c).After-mark-marked in
    on_err c.from_residual.result (subst (λ i. Grows c.args.table.now i c.args.states.now
    (rows_steps c.args.rows.now c.args.numbers.now (length c.args.rows.now))) begun c.in_err-put_each.ensures.refused)

pub returns-in_err-span-clause-refused : goal.returns-in_err-span-clause-refused
returns-in_err-span-clause-refused g c =
    let begun = begun g (goal.at.returns-in_err-span-clause-refused g c).After-mark-marked in
    on_err c.from_residual-in_err-span.result (grows_by _ _ _ _ _ _ _ begun
    (omega (arith, c.in_ok-put_each.ensures.grown, c.in_err-span.ensures.refused))
    c.in_ok-put_each.ensures.writes)

pub returns-clause-writes : goal.returns-clause-writes
returns-clause-writes g c =
    let begun = begun g (goal.at.returns-clause-writes g c).After-mark-marked in
    writes_by _ _ _ _ _ _ _ _ begun c.in_ok-span.ensures.same c.in_ok-put_each.ensures.writes
