-- A Cluster has only elements that may stand there.
use Rattle.ffv1_matroska.proofs.ListedElements.{listed_inside, listed_stands, others_refused}
use Rattle.ffv1_matroska.proofs.ListedElements.{outside_ends, piece_listed}
use Rattle.ffv1_matroska.proofs.laws.clusters_hold_listed_elements.Goals as goal

pub returns : goal.returns
returns c = record {
  pieces = piece_listed;
  listed = listed_stands;
  refused = others_refused;
  outside = outside_ends;
  apart = listed_inside;
}
