-- The truth value that comes next.
use Rattle.std.proofs.Common.{refl}
use Rattle.ffv1_record.proofs.CallsGive.{gives_truth}
use Rattle.ffv1_record.proofs.reader.RecordReader.truth.Goals as goal

pub returns : goal.returns
returns c = rw (← c.self.view_is) (gives_truth _ _ _ _ _ c.self.told
    (rw c.self.invariant.0 at (c.get.ensures.follows c.self.inside.states 0 refl)))
