-- The next element of a BlockGroup that has bytes left.
use Rattle.ffv1_matroska.specs.Segments.{group_read}
use Rattle.ffv1_reads.proofs.Answered.{answers_next, answers_of, answers_tail}
use Rattle.ffv1_matroska.proofs.segment.read_group.Goals as goal

pub returns-clause-answer : goal.returns-clause-answer
unfolding group_read
returns-clause-answer g c = answers_of _ (group_read c.args.track c.args.place) _ _
    (answers_next _ c.in_ok-element.ensures.answer (answers_tail _ _ _ _
    (rw c.group_at.ensures at c.group_child.ensures.answer)))
