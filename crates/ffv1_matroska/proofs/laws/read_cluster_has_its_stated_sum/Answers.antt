-- A Cluster that begins with a CRC-32, and of which frames are given up to its end, has the sum
-- that is stated.
use Rattle.ffv1_matroska.proofs.SumLaws.{cluster_summed, damage_told}
use Rattle.ffv1_matroska.proofs.laws.read_cluster_has_its_stated_sum.Goals as goal

pub returns : goal.returns
returns c = record { sum = cluster_summed; damage = damage_told }
