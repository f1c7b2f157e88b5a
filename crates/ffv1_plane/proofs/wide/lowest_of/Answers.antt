-- The lowest `bits` bits of a number.
use Rattle.std.proofs.lemmas.Nat.{and_mask}
use Rattle.ffv1_plane.proofs.Words.{mask_is}
use Rattle.ffv1_plane.proofs.wide.lowest_of.Goals as goal

pub returns-clause-value : goal.returns-clause-value
returns-clause-value c = rw (mask_is c.args.bits c.requires) (and_mask c.args.number c.args.bits)
