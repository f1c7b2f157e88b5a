-- Slices of a configuration that was checked in `Strict` have no sample in common.
use Rattle.ffv1_slice.specs.Grid.{across, down, division_of}
use Rattle.ffv1_slice.proofs.Sharing.{shares_none, plane_multiples}
use Rattle.ffv1_slice.proofs.laws.strict_slices_share_nothing.Goals as goal

pub returns-clause-across : goal.returns-clause-across
returns-clause-across c = λ x t p k is passes inside.
    let columns = c.accepted_configuration_is_in_range.ensures.columns x t is in
    let edges = passes.1.1.1.1.1.1.0 in
    shares_none (across (division_of x) p) k columns.0 columns.2
    (plane_multiples x.width x.columns x.log2_h p edges.0) inside

pub returns-clause-down : goal.returns-clause-down
returns-clause-down c = λ x t p k is passes inside.
    let rows = c.accepted_configuration_is_in_range.ensures.rows x t is in
    let edges = passes.1.1.1.1.1.1.0 in
    shares_none (down (division_of x) p) k rows.0 rows.2
    (plane_multiples x.height x.rows x.log2_v p edges.1) inside
