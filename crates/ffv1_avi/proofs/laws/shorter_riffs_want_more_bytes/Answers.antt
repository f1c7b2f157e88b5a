-- A beginning of a file of which every RIFF is read ends when more bytes are wanted, except at the
-- edge of an RIFF, or after fewer than twelve bytes of it.
use Rattle.ffv1_avi.proofs.EdgeLaws.{every_edge, every_near, every_within, near_given, owed_given}
use Rattle.ffv1_avi.proofs.laws.shorter_riffs_want_more_bytes.Goals as goal

pub returns : goal.returns
returns c = record {
  within = every_within;
  edge = every_edge;
  near = λ file head frames is. every_near is;
  owed = owed_given;
  owed_near = λ file head frames is. near_given is;
}
