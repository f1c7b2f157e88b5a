-- An element of a Segment whose first byte was read.
use Rattle.ffv1_reads.proofs.Answered.{answers_next, answers_of, answers_tail}
use Rattle.ffv1_matroska.specs.Turns.{turn_after}
use Rattle.ffv1_matroska.proofs.CuedTurns.{cued_ident}
use Rattle.ffv1_matroska.proofs.outer_turn.element_after.Goals as goal

pub returns-clause-answer : goal.returns-clause-answer
returns-clause-answer g c = answers_of _ (turn_after c.args.track c.args.first c.args.place) _ _
    (answers_next _ c.in_ok-ident.ensures.answer (answers_tail _ _ _ _ c.name_element.ensures.answer))

pub returns-clause-cued : goal.returns-clause-cued
returns-clause-cued g c = cued_ident c.args.cued.now _ _ _ _ _ _ _ _ _ c.name_element.result
    c.in_ok-ident.ensures.answer.1 c.name_element.ensures.cued c.name_element.ensures.answer
