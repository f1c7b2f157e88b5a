-- Counts the decisions of a symbol.
use Rattle.std.proofs.Common.{arith}
use Rattle.ffv1_range.proofs.Counting.{counted_by}
use Rattle.ffv1_range.proofs.decoder.RangeDecoder.count.Goals as goal

pub returns-clause-counts : goal.returns-clause-counts
returns-clause-counts c = λ steps ones all.
    rw (← c.self.view_is)
    (counted_by (record { ones = c.self.inside.ones; zeros = c.self.inside.zeros }) _ steps
    c.args.ones c.args.zeros
    (omega arith) (omega arith) (omega arith) (omega arith) ones all)
