-- `bytes_code_one_row_by_states`: the same after any decisions, by any states.
use Rattle.ffv1_line.proofs.lemmas.laws.SameRow.{one_row, whole_or_refused, one_refusal}
use Rattle.ffv1_line.proofs.laws.bytes_code_one_row_by_states.Goals as goal

pub returns-clause-one : goal.returns-clause-one
returns-clause-one c =
    λ bytes before coding states e d y z two one ps qs are some in_c in_d long f g.
    one_row bytes are before coding states e y d z two one some in_c in_d ps qs long f g

pub returns-clause-whole_or_refused : goal.returns-clause-whole_or_refused
returns-clause-whole_or_refused c =
    λ bytes before coding states e d y z two one ps qs are some in_c in_d short f g.
    whole_or_refused bytes are before coding states e y d z two one some in_c in_d ps qs short f g

pub returns-clause-one_refusal : goal.returns-clause-one_refusal
returns-clause-one_refusal c =
    λ bytes before coding states e d y z two one ps qs are some in_c in_d f g.
    one_refusal bytes are before coding states e y d z two one some in_c in_d ps qs f g
