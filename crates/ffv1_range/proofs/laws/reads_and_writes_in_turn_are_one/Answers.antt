-- Reading and writing of some steps, and then of others, is that of both lists.
use Rattle.ffv1_range.proofs.Steps.{follows_none, follows_append, puts_none, puts_append}
use Rattle.ffv1_range.proofs.Growth.{refused_first, refused_second}
use Rattle.ffv1_range.proofs.laws.reads_and_writes_in_turn_are_one.Goals as goal

pub returns-clause-follows_none : goal.returns-clause-follows_none
returns-clause-follows_none c = follows_none

pub returns-clause-follows_append : goal.returns-clause-follows_append
returns-clause-follows_append c = follows_append

pub returns-clause-puts_none : goal.returns-clause-puts_none
returns-clause-puts_none c = puts_none

pub returns-clause-puts_append : goal.returns-clause-puts_append
returns-clause-puts_append c = puts_append

pub returns-clause-refused_first : goal.returns-clause-refused_first
returns-clause-refused_first c = refused_first

pub returns-clause-refused_second : goal.returns-clause-refused_second
returns-clause-refused_second c = refused_second
