-- Stores two bytes after the first so many.
use Rattle.ffv1_y4m.proofs.TurnedPairs.{two_stores}
use Rattle.ffv1_y4m.proofs.pairs.put_pair.Goals as goal

pub returns : goal.returns
returns c = two_stores c.args.bytes.now c.args.at c.args.first c.args.second c.requires
