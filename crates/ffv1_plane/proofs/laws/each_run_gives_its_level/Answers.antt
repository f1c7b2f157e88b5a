-- Run `v` of a table, from 0, gives its places the level `v`.
use Rattle.ffv1_plane.proofs.Levels.{runs_below-at}
use Rattle.ffv1_plane.proofs.laws.each_run_gives_its_level.Goals as goal

pub returns : goal.returns
returns c = λ runs v k inside before behind. runs_below-at runs v k inside before behind
