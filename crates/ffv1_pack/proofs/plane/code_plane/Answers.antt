-- Codes a mono plane of `width` times `height` samples of 8 bits, row by row, as the content of one
-- slice: with the standard's state transition table, the small quantisation table set and fresh
-- states, without keyframe and head, ended by the sentinel (RFC 9043, 3.8.1 and 4.7).
use Rattle.std.proofs.Common.{arith}
use Rattle.std.proofs.lemmas.Grind.{common_steps}
use Rattle.ffv1_pack.proofs.plane.code_plane.Goals as goal

pub returns-clause-code : goal.returns-clause-code
returns-clause-code g c = grind (arith, common_steps)

pub returns-clause-decisions : goal.returns-clause-decisions
returns-clause-decisions g c = grind (arith, common_steps)

pub returns-clause-residuals : goal.returns-clause-residuals
returns-clause-residuals g c = grind (arith, common_steps)

pub returns-clause-long : goal.returns-clause-long
returns-clause-long g c = grind (arith, common_steps)

pub code_rows-requires-clause-held : goal.code_rows-requires-clause-held
code_rows-requires-clause-held g c = grind (arith, common_steps)
