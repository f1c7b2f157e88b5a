-- Opens a file, and makes the decoder of its frames.
use Rattle.ffv1_unpack.proofs.player.open_player.Goals as goal

pub returns-in-Ok-clause-located : goal.returns-in-Ok-clause-located
returns-in-Ok-clause-located g c = record {
  reached = c.in-Ok.ensures.located;
  ends = c.in-Ok.ensures.ends;
  noted = c.in-Ok.ensures.noted;
}
