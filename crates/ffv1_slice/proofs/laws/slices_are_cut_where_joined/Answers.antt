-- Coded bytes with their footers, one slice's after the other's, are cut where they were joined.
use Rattle.ffv1_slice.proofs.Joined.{joined_cuts, joined_coded}
use Rattle.ffv1_slice.proofs.laws.slices_are_cut_where_joined.Goals as goal

pub returns-clause-cuts : goal.returns-clause-cuts
returns-clause-cuts c = λ configuration codes are many. joined_cuts configuration codes
    c.footer_has_its_length_and_parity.ensures.whole are many

pub returns-clause-coded : goal.returns-clause-coded
returns-clause-coded c = joined_coded
