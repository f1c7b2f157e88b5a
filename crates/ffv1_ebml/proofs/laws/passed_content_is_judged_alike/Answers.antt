-- Content that is passed is judged as it is in memory, whatever comes after it.
use Rattle.ffv1_ebml.proofs.ContentTold.{content_bad, content_good}
use Rattle.ffv1_ebml.proofs.laws.passed_content_is_judged_alike.Goals as goal

pub returns-clause-good : goal.returns-clause-good
returns-clause-good c = content_good

pub returns-clause-bad : goal.returns-clause-bad
returns-clause-bad c = content_bad
