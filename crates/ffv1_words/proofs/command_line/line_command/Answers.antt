-- All commands of the program.
use Rattle.std.proofs.lemmas.Grind.{common_steps}
use Rattle.std.proofs.Common.{arith}
use Rattle.ffv1_words.proofs.command_line.line_command.Goals as goal

pub returns-in_err-trial_command : goal.returns-in_err-trial_command
returns-in_err-trial_command c = grind (arith, common_steps)

pub returns : goal.returns
returns c = grind (arith, common_steps)
