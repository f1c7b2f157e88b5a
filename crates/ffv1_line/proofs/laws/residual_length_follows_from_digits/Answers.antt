-- A residual of n binary digits takes 2 n + 1 decisions, at most 63; a row and a cell take those of
-- their residuals, at slots of the set's contexts; and each residual that an encoder takes of a
-- cell has a symbol.
use Rattle.ffv1_line.proofs.lemmas.laws.Lengths.{symbol_length, symbol_most, row_length, cell_length, cell_most}
use Rattle.ffv1_line.proofs.lemmas.laws.Lengths.{cell_below, chosen_rows_small, chosen_rows_many}
use Rattle.ffv1_line.proofs.laws.residual_length_follows_from_digits.Goals as goal

pub returns-clause-symbol : goal.returns-clause-symbol
returns-clause-symbol c = λ v small. symbol_length v small

pub returns-clause-most : goal.returns-clause-most
returns-clause-most c = λ v small. symbol_most v small

pub returns-clause-row : goal.returns-clause-row
returns-clause-row c = λ set cell y x qs small. row_length set cell y x qs small

pub returns-clause-cell : goal.returns-clause-cell
returns-clause-cell c = λ set cell y rows small. cell_length set cell y rows small

pub returns-clause-cell_most : goal.returns-clause-cell_most
returns-clause-cell_most c = λ rows small. cell_most rows small

pub returns-clause-cell_slots : goal.returns-clause-cell_slots
returns-clause-cell_slots c = λ set cell y rows bound. cell_below set cell y rows bound

pub returns-clause-chosen_small : goal.returns-clause-chosen_small
returns-clause-chosen_small c = λ set bits cell n some few. chosen_rows_small set bits cell n some
    few

pub returns-clause-chosen_many : goal.returns-clause-chosen_many
returns-clause-chosen_many c = λ set bits cell n. chosen_rows_many set bits cell n
