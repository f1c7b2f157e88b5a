-- A size is spelled as a variable-size integer that says it, in one byte or in eight; the unknown
-- size says that it is unknown.
use Rattle.ffv1_ebml.proofs.SpelledLaws.{long_spelled, short_spelled, unknown_spelled}
use Rattle.ffv1_ebml.proofs.laws.spelled_size_says_its_number.Goals as goal

pub returns-clause-short : goal.returns-clause-short
returns-clause-short c = short_spelled

pub returns-clause-long : goal.returns-clause-long
returns-clause-long c = long_spelled

pub returns-clause-unknown : goal.returns-clause-unknown
returns-clause-unknown c = unknown_spelled
