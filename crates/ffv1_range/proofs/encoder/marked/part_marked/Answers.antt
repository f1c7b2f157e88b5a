-- The part of a decision.
use Rattle.std.proofs.Common.{arith, rules}
use Rattle.ffv1_range.proofs.Marks.{under, held_plus, low_plus}
use Rattle.ffv1_range.proofs.encoder.marked.part_marked.Goals as goal

pub overflow_add-result : goal.overflow_add-result
overflow_add-result c = let below = under c.args.marked.low c.requires.few in omega arith

pub returns-then-bit : goal.returns-then-bit
returns-then-bit c =
    let held = held_plus c.args.marked.low c.from-then-bit.result c.args.marked.width
    c.requires.marked.some c.requires.marked.holding.below (omega arith) in
    let low = low_plus c.args.marked.low c.from-then-bit.result c.args.marked.width
    c.requires.marked.some c.requires.marked.holding.below (omega arith) in
    record {
      interval = rw (held, low) (search rules);
      part = record {
        some = omega (arith, c.requires.marked.some);
        part = rw (held, low) (search rules);
      };
    }
