-- What an encoder writes of a row, and of the rows of a cell, are residuals that suit their
-- samples, one for each sample.
use Rattle.ffv1_line.proofs.lemmas.cell.Rows.{length-chosen}
use Rattle.ffv1_line.proofs.lemmas.laws.Suits.{chosen_row_suits, chosen_rows_suit}
use Rattle.ffv1_line.proofs.lemmas.cell.Cells.{length-rows}
use Rattle.ffv1_line.proofs.laws.chosen_residuals_suit_their_samples.Goals as goal

pub returns-clause-long : goal.returns-clause-long
returns-clause-long c = λ set bits cell y n. length-chosen set bits cell y n

pub returns-clause-suit : goal.returns-clause-suit
returns-clause-suit c = λ set bits cell y n some few wide small. chosen_row_suits set bits cell y n
    some few wide small

pub returns-clause-rows : goal.returns-clause-rows
returns-clause-rows c = λ set bits cell n. length-rows set bits cell n

pub returns-clause-rows_suit : goal.returns-clause-rows_suit
returns-clause-rows_suit c = λ set bits cell n some few wide small. chosen_rows_suit set bits cell n
    some few wide small
