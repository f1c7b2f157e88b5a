-- How many bytes are held back, by the mark.
use Rattle.std.proofs.Common.{arith, sym}
use Rattle.ffv1_range.proofs.Marks.{below_first, below_second, below_third, below_fourth, under}
use Rattle.ffv1_range.proofs.encoder.marked.held_back.Goals as goal

pub returns-then-low : goal.returns-then-low
returns-then-low c = sym (below_first _ (omega arith))

pub returns-then-low-2 : goal.returns-then-low-2
returns-then-low-2 c = sym (below_second _ (omega arith) (omega arith))

pub returns-then-low-3 : goal.returns-then-low-3
returns-then-low-3 c = sym (below_third _ (omega arith) (omega arith))

pub returns : goal.returns
returns c = sym (below_fourth _ (omega arith) (under c.args.low c.requires))
