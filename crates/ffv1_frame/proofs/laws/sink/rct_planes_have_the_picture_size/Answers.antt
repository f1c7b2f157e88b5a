-- For RCT each plane is as wide and as high as the picture.
use Rattle.ffv1_frame.proofs.lemmas.laws.decoding.FromCoded.{high_in_rct, wide_in_rct}
use Rattle.ffv1_frame.proofs.laws.sink.rct_planes_have_the_picture_size.Goals as goal

pub returns-clause-wide : goal.returns-clause-wide
returns-clause-wide c = λ a p is rct. wide_in_rct a.configuration
    ((c.planes_are_divided_part_by_part.ensures a.configuration a.table is).rct rct) p

pub returns-clause-high : goal.returns-clause-high
returns-clause-high c = λ a p is rct. high_in_rct a.configuration
    ((c.planes_are_divided_part_by_part.ensures a.configuration a.table is).rct rct) p
