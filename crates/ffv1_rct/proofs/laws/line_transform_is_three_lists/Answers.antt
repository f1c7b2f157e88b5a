-- The transform of a line as one list for each of Y, Cb and Cr: lines that are the transform at
-- each place are these lists, and of lines from 0 to 255 these lists are the transform at each
-- place, of the same length.
use Rattle.ffv1_rct.proofs.Lists.{lists_if_coded, coded_lists, luma_long, chroma_long}
use Rattle.ffv1_rct.proofs.laws.line_transform_is_three_lists.Goals as goal

pub returns : goal.returns
returns c = record {
  lists = lists_if_coded 8;
  coded = coded_lists 8;
  luma_long = luma_long;
  chroma_long = chroma_long 8;
}
