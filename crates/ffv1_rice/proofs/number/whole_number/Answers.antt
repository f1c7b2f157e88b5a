-- The number that is written whole at the beginning of a window.
use Rattle.ffv1_rice.proofs.Numbers.{whole_window}
use Rattle.ffv1_rice.proofs.number.whole_number.Goals as goal

pub returns : goal.returns
returns c =
    whole_window c.args.window c.args.bits c.lowest.result c.ranges.window.fits c.requires.zeros
    c.requires.bits c.lowest.ensures
