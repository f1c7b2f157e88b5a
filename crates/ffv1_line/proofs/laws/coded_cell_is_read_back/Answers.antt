-- So are the rows of a cell that its bytes code, one after the other.
use Rattle.ffv1_line.proofs.lemmas.decode.CellBack.{behind_none, back_more, behind_not_refused}
use Rattle.ffv1_line.proofs.laws.coded_cell_is_read_back.Goals as goal

pub returns-clause-first : goal.returns-clause-first
returns-clause-first c = λ before coding now e rows at cell. behind_none before coding now.states e
    rows now.reading at cell

pub returns-clause-next : goal.returns-clause-next
returns-clause-next c =
    λ before coding states e rows y now new over cur some inside above wide behind lined. back_more
    before coding states e rows y now new over cur some inside above wide behind lined

pub returns-clause-not_refused : goal.returns-clause-not_refused
returns-clause-not_refused c =
    λ before coding states e rows y x now new over cur inside above within behind refused.
    behind_not_refused before coding states e rows y now new over cur x inside above within behind
    refused
