-- What is told of a Matroska file says what it opens as.
use Rattle.ffv1_files.proofs.ToldOpenings.{opens_not, opens_same}
use Rattle.ffv1_files.proofs.salvage_laws.what_is_told_says_what_a_file_opens_as.Goals as goal

pub returns-clause-none : goal.returns-clause-none
returns-clause-none c = λ file is none. opens_same file (c.what_is_told_says_what_plain_reading_meets.ensures.none file) is none

pub returns-clause-first : goal.returns-clause-first
returns-clause-first c = λ file f offset others is told. opens_not file f offset others
    (λ t more h. (let met = c.what_is_told_says_what_plain_reading_meets.ensures.first file t more h in (met.0, met.1)))
    (λ t more h. c.the_first_fault_is_told_of_its_element.ensures file t more h) is told
