-- A BlockGroup has a Block.
use Rattle.ffv1_matroska.proofs.GroupLaws.{cluster_group_refused, group_given, group_has}
use Rattle.ffv1_matroska.proofs.GroupLaws.{loose_group_refused}
use Rattle.ffv1_matroska.proofs.laws.groups_have_a_block.Goals as goal

pub returns : goal.returns
returns c = record {
  pieces = group_has;
  refused = cluster_group_refused;
  loose = loose_group_refused;
  given = group_given;
}
