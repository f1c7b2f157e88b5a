-- The samples around the place after another one.
use Rattle.std.proofs.Common.{refl, slice_index}
use Rattle.ffv1_rice.proofs.Rows.{beside_next}
use Rattle.ffv1_rice.proofs.around.around_next.Goals as goal

pub returns : goal.returns
returns c = λ row place next is here.
    beside_next c.args.two.now c.args.one.now row place c.args.x c.args.sample c.right_above.result
    (slice_index c.args.two.now c.args.x) c.args.around.now next c.requires.one is here
    c.right_above.ensures refl
