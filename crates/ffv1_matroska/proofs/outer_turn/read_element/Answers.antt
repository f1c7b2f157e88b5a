-- The next element of a Segment that has bytes left.
use Rattle.ffv1_reads.proofs.Answered.{answers_next, answers_of, answers_tail}
use Rattle.ffv1_matroska.specs.Turns.{segment_turn}
use Rattle.ffv1_matroska.proofs.CuedTurns.{cued_ident}
use Rattle.ffv1_matroska.proofs.outer_turn.read_element.Goals as goal

pub returns-clause-answer : goal.returns-clause-answer
unfolding segment_turn
returns-clause-answer g c = answers_of _ (segment_turn c.args.track c.args.place) _ _
    (answers_next _ c.in_ok-ident.ensures.answer (answers_tail _ _ _ _ c.name_element.ensures.answer))

pub returns-clause-cued : goal.returns-clause-cued
returns-clause-cued g c = cued_ident c.args.cued.now _ _ _ _ _ _ _ _ _ c.name_element.result
    c.in_ok-ident.ensures.answer.1 c.name_element.ensures.cued c.name_element.ensures.answer
