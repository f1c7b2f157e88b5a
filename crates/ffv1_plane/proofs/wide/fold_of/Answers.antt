-- A difference modulo 2^32 folded to `bits` bits (RFC 9043, 3.8).
use Rattle.std.proofs.Common.{◌+◌, ◌-◌, ◌^◌}
use Rattle.ffv1_plane.proofs.WideWords.{folded_words, folded_size}
use Rattle.ffv1_plane.proofs.wide.fold_of.Goals as goal

pub returns-clause-value : goal.returns-clause-value
returns-clause-value c = folded_words c.args.bits c.lowest_of.result c.args.difference _ _
    c.requires.few c.lowest_of.ensures.small c.lowest_of.ensures.value c.cast_signed.ensures
    c.cast_signed-2.ensures

pub returns-clause-size : goal.returns-clause-size
returns-clause-size c =
    let is = folded_words c.args.bits c.lowest_of.result c.args.difference _ _ c.requires.few
    c.lowest_of.ensures.small c.lowest_of.ensures.value c.cast_signed.ensures
    c.cast_signed-2.ensures in
    rw is (folded_size c.args.bits (c.args.difference + 2 ^ (c.args.bits - 1)) c.requires.few)
