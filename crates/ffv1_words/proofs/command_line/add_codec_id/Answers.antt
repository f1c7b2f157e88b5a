use Rattle.std.proofs.Common.{refl}
use Rattle.ffv1_words.proofs.AddedArgument.{added_last}
use Rattle.ffv1_words.proofs.command_line.add_codec_id.Goals as goal

pub returns : goal.returns
returns c =
    added_last _ _ _ _ _ c.arg.ensures (refl, c.requires) c.word_arg.ensures.rule c.word_arg.ensures.own
