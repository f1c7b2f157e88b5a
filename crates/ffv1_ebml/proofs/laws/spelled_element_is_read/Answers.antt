-- An element that is spelled is read as it was spelled, in any parent that holds it, and its header
-- is summed: a header alone, one of unknown size, and one with the content, which is left.
use Rattle.ffv1_ebml.proofs.ElementLaws.{element_spelled, known_spelled, unknown_is_read}
use Rattle.ffv1_ebml.proofs.laws.spelled_element_is_read.Goals as goal

pub returns-clause-known : goal.returns-clause-known
returns-clause-known c = known_spelled

pub returns-clause-unknown : goal.returns-clause-unknown
returns-clause-unknown c = unknown_is_read

pub returns-clause-whole : goal.returns-clause-whole
returns-clause-whole c = element_spelled
