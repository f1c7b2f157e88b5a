-- Lists of decisions in two parts.
use Rattle.ffv1_range.proofs.Nested.{narrowed-append}
use Rattle.ffv1_range.proofs.Steps.{decided-append, moved_by-append}
use Rattle.ffv1_range.proofs.Windows.{AreBelow-append}
use Rattle.ffv1_range.proofs.OneAfter.{after_append}
use Rattle.ffv1_range.proofs.laws.decisions_of_two_parts_join.Goals as goal

pub returns-clause-interval : goal.returns-clause-interval
returns-clause-interval c = narrowed-append

pub returns-clause-decided : goal.returns-clause-decided
returns-clause-decided c = decided-append

pub returns-clause-moved : goal.returns-clause-moved
returns-clause-moved c = moved_by-append

pub returns-clause-history : goal.returns-clause-history
returns-clause-history c = after_append

pub returns-clause-below : goal.returns-clause-below
returns-clause-below c = AreBelow-append
