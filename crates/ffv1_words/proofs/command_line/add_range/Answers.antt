-- The options of which frames of a file are decoded.
use Rattle.std.proofs.Common.{refl}
use Rattle.ffv1_words.proofs.AddedArgument.{added, added_last}
use Rattle.ffv1_words.proofs.command_line.add_range.Goals as goal

pub returns : goal.returns
returns c =
    let from = added _ _ _ _ _ c.in_ok-command.ensures (refl, c.requires)
    c.number_arg.ensures.rule c.number_arg.ensures.own in
    added_last _ _ _ _ _ c.arg-2.ensures from c.count_arg.ensures.rule
    c.count_arg.ensures.own
