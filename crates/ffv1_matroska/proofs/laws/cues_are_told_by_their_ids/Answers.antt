-- Whether Cues came after the last Cluster is told by the IDs of a Segment's elements.
use Rattle.ffv1_matroska.proofs.CuesTold.{cued_cluster, cued_cues, cued_others, told_inside}
use Rattle.ffv1_matroska.proofs.CuesTold.{told_sized, told_unknown}
use Rattle.ffv1_matroska.proofs.laws.cues_are_told_by_their_ids.Goals as goal

pub returns : goal.returns
returns c = record {
  sized = told_sized;
  unknown = told_unknown;
  cluster = cued_cluster;
  cues = cued_cues;
  others = cued_others;
  inside = told_inside;
}
