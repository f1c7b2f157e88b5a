-- A line is read as the depth and the head that it says, if depths up to that one are read; and
-- what is so read says that depth and that head.
use Rattle.ffv1_y4m.proofs.HeaderLines.{line_found, line_only}
use Rattle.ffv1_y4m.proofs.laws.header_line_is_read_exactly.Goals as goal

pub returns : goal.returns
returns c = record {
  found = line_found;
  only = λ line most depth h e. line_only line most
      (record { head = h; depth = depth }) e;
}
