-- Four places more of a number with its bytes big end first. A top of 2^32 or more carries into the
-- bytes before.
use Rattle.std.proofs.lemmas.Grind.{common_steps}
use Rattle.std.proofs.Common.{arith}
use Rattle.ffv1_range.proofs.encoder.marked.emit_word.Goals as goal

pub push_word-requires-2 : goal.push_word-requires-2
push_word-requires-2 g c = grind (arith, common_steps)

pub returns-clause-value : goal.returns-clause-value
returns-clause-value g c = grind (arith, common_steps)

pub returns-clause-long : goal.returns-clause-long
returns-clause-long g c = grind (arith, common_steps)
