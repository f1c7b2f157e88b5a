-- The early part of the sum that makes a context, which the rows above decide: the entries of the
-- second, the third and the fifth table, each raised by its table's greatest, and how far the sum
-- of all five tables' greatest lies below 32768.
use Rattle.ffv1_plane.proofs.EarlySums.{early_is, early_of_three}
use Rattle.ffv1_plane.proofs.quantisation.early_sum.Goals as goal

pub returns-then-three_tables : goal.returns-then-three_tables
returns-then-three_tables g c =
    let three = rw (← c.set.view_is) at (c.requires c.if-three_tables.true) in
    rw (← c.set.view_is) (early_of_three c.set.inside.first c.set.inside.second c.set.inside.third
    c.set.inside.fourth c.set.inside.fifth c.set.inside.half c.set.invariant
    c.args.tl c.args.t c.args.tr c.args.tt c.raised.result c.raised-2.result three
    c.raised.ensures.value c.raised-2.ensures.value)

pub returns : goal.returns
returns g c =
    rw (← c.set.view_is) (early_is c.set.inside.first c.set.inside.second c.set.inside.third
    c.set.inside.fourth c.set.inside.fifth c.set.inside.half c.set.invariant
    c.args.tl c.args.t c.args.tr c.args.tt c.raised.result c.raised-2.result c.raised-3.result
    c.raised.ensures.value c.raised-2.ensures.value c.raised-3.ensures.value)
