-- The lines of an image stand in its order, and what they make a sink write is its text.
use Rattle.ffv1_y4m.proofs.NextLines.{image_by_lines, lines_placed}
use Rattle.ffv1_y4m.proofs.laws.image_lines_stand_in_order.Goals as goal

pub returns-clause-places : goal.returns-clause-places
returns-clause-places c = λ size height red green blue. lines_placed size 0 height red green blue

pub returns-clause-text : goal.returns-clause-text
returns-clause-text c = λ depth width height red green blue some long. image_by_lines depth width
    height red green blue some long
