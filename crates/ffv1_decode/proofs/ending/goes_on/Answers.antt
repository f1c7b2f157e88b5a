-- Whether the bytes of a column's slice do not end where it was read up to.
use Rattle.std.proofs.Common.{sym}
use Rattle.ffv1_decode.proofs.lemmas.ending.BitsEnd.{left_bytes, has_padding, lacks_padding, has_ending}
use Rattle.ffv1_decode.proofs.lemmas.ending.BitsEnd.{lacks_ending}
use Rattle.ffv1_decode.proofs.ending.goes_on.Goals as goal

pub bits_left-requires : goal.bits_left-requires
bits_left-requires g c =
    left_bytes c.args.frame.now.payload.now c.args.column.now c.requires.rises c.requires.inside
    c.requires.left

pub returns-then-is_rice-clause-no : goal.returns-then-is_rice-clause-no
returns-then-is_rice-clause-no g c = λ no q may.
    has_padding c.args.frame.now.checked.now _ c.args.column.now q (sym c.if-is_rice.ensures) may
    c.bits_left.result (c.bits_left.ensures.behind c.args.frame.now.checked.now q.past q.bits)
    c.is_padding.result c.is_padding.ensures no

pub returns-then-is_rice-clause-yes : goal.returns-then-is_rice-clause-yes
returns-then-is_rice-clause-yes g c = λ yes q may.
    lacks_padding c.args.frame.now.checked.now _ c.args.column.now q (sym c.if-is_rice.ensures) may
    c.bits_left.result (c.bits_left.ensures.behind c.args.frame.now.checked.now q.past q.bits)
    c.is_padding.result c.is_padding.ensures yes

pub returns-clause-no : goal.returns-clause-no
returns-clause-no g c = λ no q may.
    has_ending c.args.frame.now.checked.now _ c.args.column.now q (sym c.if-is_rice.ensures) may
    (c.is_unended.ensures.no no q.past)

pub returns-clause-yes : goal.returns-clause-yes
returns-clause-yes g c = λ yes q may.
    lacks_ending c.args.frame.now.checked.now _ c.args.column.now q (sym c.if-is_rice.ensures) may
    (c.is_unended.ensures.yes yes q.past)
