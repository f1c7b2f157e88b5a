-- The frame rate that a frame of so many nanoseconds says.
use Rattle.std.proofs.Common.{arith, rules}
use Rattle.ffv1_matroska.proofs.ShortFrames.{counted}
use Rattle.ffv1_matroska.proofs.rate.rate_of.Goals as goal

pub overflow_cast-result-in-Some-nearly_in : goal.overflow_cast-result-in-Some-nearly_in
overflow_cast-result-in-Some-nearly_in c =
    let few = counted 100000000000 c.args.duration c.in-Some-nearly_in.frames (omega arith) (omega arith)
    (search rules) (search rules) in
    omega (arith, few)

pub overflow_cast-result-in-Some-nearly_in-2 : goal.overflow_cast-result-in-Some-nearly_in-2
overflow_cast-result-in-Some-nearly_in-2 c =
    let few = counted 1000000000000 c.args.duration c.in-Some-nearly_in-2.frames (omega arith) (omega arith)
    (search rules) (search rules) in
    omega (arith, few)
