-- A byte, and some bytes 0 after it, struck out.
use Rattle.ffv1_sum.proofs.Blocks.{table}
use Rattle.ffv1_sum.proofs.sum.entry.Goals as goal

pub returns : goal.returns
returns c = table c.args.behind c.args.byte c.requires.behind c.requires.byte
