-- A payload has one cutting at most.
use Rattle.std.proofs.Common.{◌-◌, arith}
use Rattle.ffv1_slice.proofs.Cuttings.{one_cutting}
use Rattle.ffv1_slice.proofs.laws.payload_has_one_cutting.Goals as goal

pub returns : goal.returns
returns c = λ payload foot count xs ys f g s h. one_cutting payload foot count xs ys f g (count - s)
    s (omega (arith, h))
