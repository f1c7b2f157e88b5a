-- The options of what Matroska says of colours.
use Rattle.std.proofs.Common.{refl}
use Rattle.ffv1_words.proofs.AddedArgument.{added, added_last}
use Rattle.ffv1_words.proofs.command_line.add_colour.Goals as goal

pub returns : goal.returns
returns c =
    let range = added _ _ _ _ _ c.in_ok-arg.ensures (refl, c.requires) c.word_arg.ensures.rule
    c.word_arg.ensures.own in
    let siting = added _ _ _ _ _ c.in_ok-arg-2.ensures range c.word_arg-2.ensures.rule
    c.word_arg-2.ensures.own in
    let primaries = added _ _ _ _ _ c.in_ok-arg-3.ensures siting c.number_arg.ensures.rule
    c.number_arg.ensures.own in
    let transfer = added _ _ _ _ _ c.in_ok-arg-4.ensures primaries c.number_arg-2.ensures.rule
    c.number_arg-2.ensures.own in
    added_last _ _ _ _ _ c.arg-5.ensures transfer c.number_arg-3.ensures.rule
    c.number_arg-3.ensures.own
