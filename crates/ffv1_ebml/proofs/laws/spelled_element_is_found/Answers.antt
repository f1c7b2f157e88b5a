-- In memory an element that is spelled is the first one of what begins with it.
use Rattle.ffv1_ebml.proofs.ElementLaws.{found_first, found_past, part_spelled}
use Rattle.ffv1_ebml.proofs.laws.spelled_element_is_found.Goals as goal

pub returns-clause-part : goal.returns-clause-part
returns-clause-part c = part_spelled

pub returns-clause-first : goal.returns-clause-first
returns-clause-first c = found_first

pub returns-clause-past : goal.returns-clause-past
returns-clause-past c = found_past
