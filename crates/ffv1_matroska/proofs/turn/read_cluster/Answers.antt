-- The next element of a Cluster that has bytes left.
use Rattle.ffv1_reads.proofs.Answered.{answers_err, answers_first, answers_next, answers_of}
use Rattle.ffv1_reads.proofs.Answered.{answers_tail}
use Rattle.ffv1_matroska.specs.Segments.{outside_idents}
use Rattle.ffv1_matroska.specs.Turns.{cluster_turn}
use Rattle.ffv1_matroska.proofs.turn.read_cluster.Goals as goal

pub returns-in_err-header : goal.returns-in_err-header
unfolding cluster_turn outside_idents
returns-in_err-header g c = answers_err _ (cluster_turn c.args.track c.args.place) _ _
    c.from_residual.ensures.1 (answers_first _ _ c.in_err-header.ensures)

pub returns : goal.returns
unfolding cluster_turn outside_idents
returns g c = answers_of _ (cluster_turn c.args.track c.args.place) _ _
    (answers_next _ c.in_ok-header.ensures (answers_tail _ _ _ _ c.read_headed.ensures))
