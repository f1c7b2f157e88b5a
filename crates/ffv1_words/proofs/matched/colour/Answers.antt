use Rattle.std.proofs.Common.{refl}
use Rattle.ffv1_words.proofs.matched.colour.Goals as goal

pub returns-in_err-range-clause-none : goal.returns-in_err-range-clause-none
returns-in_err-range-clause-none c = λ _ x named. c.in_err-range.ensures.none refl x.range named.range

pub returns-in_err-siting-clause-none : goal.returns-in_err-siting-clause-none
returns-in_err-siting-clause-none c = λ _ x named. c.in_err-siting.ensures.none refl x.siting named.siting

pub returns-in_err-primaries-clause-none : goal.returns-in_err-primaries-clause-none
returns-in_err-primaries-clause-none c = λ _ x named. c.in_err-primaries.ensures.none refl x.primaries named.primaries

pub returns-in_err-transfer-clause-none : goal.returns-in_err-transfer-clause-none
returns-in_err-transfer-clause-none c = λ _ x named. c.in_err-transfer.ensures.none refl x.transfer named.transfer

pub returns-in_err-matrix-clause-none : goal.returns-in_err-matrix-clause-none
returns-in_err-matrix-clause-none c = λ _ x named. c.in_err-matrix.ensures.none refl x.matrix named.matrix
