-- The lowest bits of a number.
use Rattle.std.proofs.lemmas.Nat.{one_shl, and_mask}
use Rattle.ffv1_rice.proofs.number.lowest.Goals as goal

pub returns : goal.returns
returns c = rw (one_shl c.args.count 32 c.requires) (and_mask c.args.number c.args.count)
