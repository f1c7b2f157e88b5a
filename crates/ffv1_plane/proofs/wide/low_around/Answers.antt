-- The samples around a sample modulo 65536.
use Rattle.ffv1_plane.proofs.WideWords.{size_low, flip_low}
use Rattle.ffv1_plane.proofs.wide.low_around.Goals as goal

pub returns-clause-size : goal.returns-clause-size
returns-clause-size c = let a = c.args.around.now in λ set. size_low set a.l a.t a.tl a.tr a.ll a.tt

pub returns-clause-flip : goal.returns-clause-flip
returns-clause-flip c = let a = c.args.around.now in λ set. flip_low set a.l a.t a.tl a.tr a.ll a.tt
