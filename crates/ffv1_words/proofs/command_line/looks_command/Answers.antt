-- The commands on files, and the two that look into them.
use Rattle.std.proofs.lemmas.Grind.{common_steps}
use Rattle.std.proofs.Common.{arith}
use Rattle.ffv1_words.proofs.command_line.looks_command.Goals as goal

pub returns-in_err-show_command : goal.returns-in_err-show_command
returns-in_err-show_command c = grind (arith, common_steps)

pub returns : goal.returns
returns c = grind (arith, common_steps)
