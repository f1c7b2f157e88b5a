-- The command `unpack`.
use Rattle.std.proofs.Common.{◌∙◌, ap}
use Rattle.clap.specs.Words.{App}
use Rattle.ffv1_words.specs.CommandLine.{with_no_clobber, with_progress, with_range}
use Rattle.ffv1_words.proofs.AddedArgument.{added, added_last}
use Rattle.ffv1_words.proofs.command_line.unpack_command.Goals as goal

abbrev made : App → App
made a = with_progress (with_no_clobber a)

pub returns : goal.returns
returns c =
    let flag = added _ _ _ _ _ c.in_ok-command-2.ensures c.in_ok-command.ensures
    c.flag_arg.ensures.rule c.flag_arg.ensures.own in
    let all = c.in_ok-command-3.ensures.0 ∙ ap with_range flag.0 in
    let making = c.in_ok-command-4.ensures in
    added_last _ _ _ _ _ c.arg-2.ensures (making.0 ∙ ap made all, making.1)
    c.notes_arg.ensures.rule c.notes_arg.ensures.own
