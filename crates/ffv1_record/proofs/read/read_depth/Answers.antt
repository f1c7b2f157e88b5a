-- The bits of a sample, up to `most`.
use Rattle.std.proofs.Common.{sym}
use Rattle.ffv1_record.proofs.CallsGive.{gives_depth, refuses_depth}
use Rattle.ffv1_record.proofs.read.read_depth.Goals as goal

pub returns-then-is_depth-clause-gives : goal.returns-then-is_depth-clause-gives
returns-then-is_depth-clause-gives c =
    rw c.depth_of-then-is_depth.ensures (gives_depth _ _ _ _ c.in_ok-bits.ensures.gives
    (rw c.depth_of.ensures at (sym c.if-is_depth.ensures)))

pub returns-clause-gives : goal.returns-clause-gives
returns-clause-gives c = refuses_depth _ _ _ _ c.in_ok-bits.ensures.gives
    (rw c.depth_of.ensures at (sym c.if-is_depth.ensures))
