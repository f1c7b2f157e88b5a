-- What holds of a configuration that was checked, in numbers.
use Rattle.std.proofs.Common.{length}
use Rattle.ffv1_record.proofs.Checks.{depth_bounds, sized, divided, subsampled, fits_grid, counted}
use Rattle.ffv1_record.proofs.laws.accepted_configuration_is_in_range.Goals as goal

pub returns-clause-sizes : goal.returns-clause-sizes
returns-clause-sizes c = λ x t is.
    let facts = sized x is.passes.0 in
    (facts.some_wide, facts.wide, facts.some_high, facts.high)

pub returns-clause-depth : goal.returns-clause-depth
returns-clause-depth c = λ x t is.
    let bounds = depth_bounds 16 x.depth is.depth in
    (bounds.0, bounds.1)

pub returns-clause-factors : goal.returns-clause-factors
returns-clause-factors c = λ x t is.
    let facts = subsampled x is.passes.1.0 in
    (facts.log2_h, facts.log2_v)

pub returns-clause-columns : goal.returns-clause-columns
returns-clause-columns c = λ x t is.
    let facts = divided x is.passes.1.1.1.1.1.0 in
    (facts.some_columns, facts.columns, (fits_grid x is.passes.1.1.1.1.1.0).0)

pub returns-clause-rows : goal.returns-clause-rows
returns-clause-rows c = λ x t is.
    let facts = divided x is.passes.1.1.1.1.1.0 in
    (facts.some_rows, facts.rows, (fits_grid x is.passes.1.1.1.1.1.0).1)

pub returns-clause-edges : goal.returns-clause-edges
returns-clause-edges c = λ x t is. is.passes.1.1.1.1.1.1.0

pub returns-clause-sets : goal.returns-clause-sets
returns-clause-sets c = λ x t is.
    let count = counted (length x.sets) is.passes.1.1.1.0 in
    (count.0, count.1, is.sets)
