-- A row that its decoder's bytes code by its states is read as it is, and is not refused.
use Rattle.std.proofs.Common.{◌≡◌, ◌+◌, suc, subst, arith}
use Rattle.ffv1_line.specs.Cell.{Shows}
use Rattle.ffv1_line.proofs.lemmas.laws.ThreeRows.{row_back, row_not_refused}
use Rattle.ffv1_line.proofs.laws.coded_row_is_read_back.Goals as goal

pub returns-clause-read : goal.returns-clause-read
returns-clause-read c =
    λ coding old new over cur before e y qs some above wide long at are codes lined.
    let two_more : suc (suc y) ≡ y + 2 = omega arith in
    let back = row_back coding old new over cur before e y qs some above wide long at are codes
    lined in
    (subst (λ n. Shows e n cur e.width) two_more back.0, back.1)

pub returns-clause-not_refused : goal.returns-clause-not_refused
returns-clause-not_refused c =
    λ coding old new over cur before e y x qs some above long inside at are codes refused.
    row_not_refused coding old new over cur before e y x qs some above long inside at are codes
    refused
