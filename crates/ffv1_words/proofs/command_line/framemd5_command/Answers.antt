-- The command `framemd5`.
use Rattle.std.proofs.Common.{◌∙◌, ap}
use Rattle.ffv1_words.specs.CommandLine.{with_range}
use Rattle.ffv1_words.proofs.AddedArgument.{added_last}
use Rattle.ffv1_words.proofs.command_line.framemd5_command.Goals as goal

pub returns : goal.returns
returns c =
    let ranged = c.in_ok-command-2.ensures in
    added_last _ _ _ _ _ c.arg.ensures
    (ranged.0 ∙ ap with_range c.in_ok-command.ensures.0, ranged.1)
    c.notes_arg.ensures.rule c.notes_arg.ensures.own
