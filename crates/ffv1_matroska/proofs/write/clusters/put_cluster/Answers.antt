-- Writes the Cluster of the frame that has so many before it.
use Rattle.ffv1_reads.proofs.Writing.{writes_then}
use Rattle.ffv1_matroska.proofs.write.clusters.put_cluster.Goals as goal

pub returns : goal.returns
returns g c =
    let sent = c.in_ok-send.ensures in
    rw (← c.cluster_front.ensures) (writes_then _ _ _ _ _ _ c.cluster_front.result c.args.frame.now
    c.send-2.result sent.0 (rw c.as_slice.ensures at sent.1) c.send-2.ensures)
