-- If depths above 8 are not read, a line and a header say neither siting nor range.
use Rattle.ffv1_y4m.proofs.StrictHeads.{header_neither, line_neither}
use Rattle.ffv1_y4m.proofs.laws.strict_head_says_neither.Goals as goal

pub returns : goal.returns
returns c = record { line = line_neither; header = header_neither }
