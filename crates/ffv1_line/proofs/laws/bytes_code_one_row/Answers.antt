-- After one past the bytes code one row at most, below two given rows: residuals of so many samples
-- that suit them are one list and make one row; a row that is refused is no beginning of one that
-- is coded, and is refused at one place.
use Rattle.ffv1_line.proofs.lemmas.laws.SameRowAfter.{one_row_after, whole_or_refused_after, one_refusal_after}
use Rattle.ffv1_line.proofs.laws.bytes_code_one_row.Goals as goal

pub returns-clause-one : goal.returns-clause-one
returns-clause-one c =
    λ bytes coding base past e d y z two one ps qs are table some in_c in_d long f g.
    one_row_after bytes are coding table base past e y d z two one some in_c in_d ps qs long f g

pub returns-clause-whole_or_refused : goal.returns-clause-whole_or_refused
returns-clause-whole_or_refused c =
    λ bytes coding base past e d y z two one ps qs are table some in_c in_d short f g.
    whole_or_refused_after bytes are coding table base past e y d z two one some in_c in_d ps qs
    short f g

pub returns-clause-one_refusal : goal.returns-clause-one_refusal
returns-clause-one_refusal c =
    λ bytes coding base past e d y z two one ps qs are table some in_c in_d f g.
    one_refusal_after bytes are coding table base past e y d z two one some in_c in_d ps qs f g
