-- Whether the slice to the left codes the first sample of a segment, too.
use Rattle.ffv1_decode.proofs.lemmas.shared.SharedColumns.{none_shared}
use Rattle.ffv1_decode.proofs.shared.shares_left.Goals as goal

pub returns-then-not-frame-clause-no : goal.returns-then-not-frame-clause-no
returns-then-not-frame-clause-no g c = λ is.
    let conf = c.args.frame.now.checked.now.configuration in
    let p = c.args.segment.now.plane in
    let k = c.args.segment.now.column in
    let sides = c.planes_are_divided_part_by_part.ensures conf c.args.frame.now.checked.now.table
    c.requires.frame.accepted in
    let none = rw c.requires.frame.grid at (c.requires.frame.apart c.if-not-frame.true) in
    none_shared conf p k (sides.columns_tile p) c.requires.column (none k c.requires.column)
