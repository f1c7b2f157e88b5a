-- The transform of a line as lists, at any depth: lines that are the transform at each place are
-- these lists, and of lines below 2^depth these lists are the transform at each place, of the same
-- length.
use Rattle.ffv1_rct.proofs.Lists.{lists_if_coded, coded_lists, chroma_long}
use Rattle.ffv1_rct.proofs.laws.line_transform_is_lists_at_depth.Goals as goal

pub returns : goal.returns
returns c = record { lists = lists_if_coded; coded = coded_lists; chroma_long = chroma_long }
