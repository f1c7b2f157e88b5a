-- The slots of a row are those of the set's contexts.
use Rattle.ffv1_line.proofs.lemmas.cell.Joined.{row_below}
use Rattle.ffv1_line.proofs.laws.row_slots_are_the_contexts_slots.Goals as goal

pub returns : goal.returns
returns c = λ set c y x qs bound. row_below set c y x qs bound
