-- The next element of a Cluster that has bytes left.
use Rattle.std.proofs.Common.{◌<◌, ◌+◌, arith, refl}
use Rattle.ffv1_matroska.specs.Internal.{bytes_of}
use Rattle.ffv1_matroska.specs.Places.{amount, cluster_at}
use Rattle.ffv1_matroska.specs.Segments.{cluster_read, outside_idents}
use Rattle.ffv1_matroska.proofs.Steps.{steps_less, within_bytes}
use Rattle.ffv1_reads.proofs.Answered.{answers_err, answers_first, answers_next, answers_of}
use Rattle.ffv1_reads.proofs.Answered.{answers_tail}
use Rattle.ffv1_matroska.proofs.segment.read_cluster.Goals as goal

pub returns-in_err-element-clause-answer : goal.returns-in_err-element-clause-answer
unfolding cluster_read outside_idents
returns-in_err-element-clause-answer g c = answers_err _
    (cluster_read c.args.track c.args.place) _ _ c.from_residual.ensures.1
    (answers_first _ _ c.in_err-element.ensures.answer)

pub returns-clause-answer : goal.returns-clause-answer
unfolding cluster_read outside_idents
returns-clause-answer g c = answers_of _ (cluster_read c.args.track c.args.place) _ _
    (answers_next _ c.in_ok-element.ensures.answer (answers_tail _ _ _ _
    (rw c.cluster_at.ensures at c.known_child.ensures.answer)))

pub returns-clause-less : goal.returns-clause-less
returns-clause-less g c =
    let place = c.args.place in
    let e = c.in_ok-element.element in
    let after = cluster_at place e.left c.next_element_in.new.sum in
    let within = within_bytes e _ e.size refl c.in_ok-element.ensures.within in
    let less : amount after + bytes_of e.size < amount place =
    omega (arith, within, c.requires.some, c.requires.alone) in
    steps_less c.known_child.result (amount after + bytes_of e.size) (amount place) less
    (rw c.cluster_at.ensures at c.known_child.ensures.most)
