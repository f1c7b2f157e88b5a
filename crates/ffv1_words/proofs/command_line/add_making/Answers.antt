-- The flags of a command that makes a file.
use Rattle.std.proofs.Common.{refl}
use Rattle.ffv1_words.proofs.AddedArgument.{added, added_last}
use Rattle.ffv1_words.proofs.command_line.add_making.Goals as goal

pub returns : goal.returns
returns c =
    let kept = added _ _ _ _ _ c.in_ok-command.ensures (refl, c.requires)
    c.flag_arg.ensures.rule c.flag_arg.ensures.own in
    added_last _ _ _ _ _ c.arg-2.ensures kept c.progress_arg.ensures.rule
    c.progress_arg.ensures.own
