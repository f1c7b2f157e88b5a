-- The command `check`: its files, and what it says of them.
use Rattle.std.proofs.Common.{◌∙◌, ap}
use Rattle.ffv1_words.specs.CommandLine.{with_range}
use Rattle.ffv1_words.proofs.AddedArgument.{added, added_last}
use Rattle.ffv1_words.proofs.command_line.check_command.Goals as goal

pub returns : goal.returns
returns c =
    let all = added _ _ _ _ _ c.in_ok-arg.ensures c.in_ok-some_files_command.ensures
    c.flag_arg.ensures.rule c.flag_arg.ensures.own in
    let place = added _ _ _ _ _ c.in_ok-arg-2.ensures all c.flag_arg-2.ensures.rule
    c.flag_arg-2.ensures.own in
    let quiet = added _ _ _ _ _ c.in_ok-arg-3.ensures place c.flag_arg-3.ensures.rule
    c.flag_arg-3.ensures.own in
    let json = added _ _ _ _ _ c.in_ok-arg-4.ensures quiet c.flag_arg-4.ensures.rule
    c.flag_arg-4.ensures.own in
    let against = added _ _ _ _ _ c.in_ok-command.ensures json c.path_arg.ensures.rule
    c.path_arg.ensures.own in
    let ranged = c.in_ok-command-2.ensures in
    let told = added _ _ _ _ _ c.in_ok-command-3.ensures
    (ranged.0 ∙ ap with_range against.0, ranged.1)
    c.progress_arg.ensures.rule c.progress_arg.ensures.own in
    added_last _ _ _ _ _ c.arg-7.ensures told c.notes_arg.ensures.rule c.notes_arg.ensures.own
