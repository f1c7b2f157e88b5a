-- The commands on files, and those that tell what some are.
use Rattle.std.proofs.lemmas.Grind.{common_steps}
use Rattle.std.proofs.Common.{arith}
use Rattle.ffv1_words.proofs.command_line.tells_command.Goals as goal

pub returns-in_err-framemd5_command : goal.returns-in_err-framemd5_command
returns-in_err-framemd5_command c = grind (arith, common_steps)

pub returns : goal.returns
returns c = grind (arith, common_steps)
