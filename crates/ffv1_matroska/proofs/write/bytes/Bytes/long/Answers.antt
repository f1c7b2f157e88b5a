-- The header of an element of so many bytes of content, its size in eight bytes.
use Rattle.std.proofs.Common.{◌∙◌, length, ap, arith}
use Rattle.ffv1_matroska.proofs.SpelledLengths.{ident_most, long_header_long}
use Rattle.ffv1_matroska.proofs.write.bytes.Bytes.long.Goals as goal

pub put-requires : goal.put-requires
put-requires c =
    let e = ap length (c.as_slice.ensures ∙ c.long_header-header.ensures) ∙ long_header_long
    c.args.ident c.args.size in
    omega (arith, e, ident_most c.args.ident)

pub returns-clause-len : goal.returns-clause-len
returns-clause-len c =
    let e = ap length (c.as_slice.ensures ∙ c.long_header-header.ensures) ∙ long_header_long
    c.args.ident c.args.size in
    omega (arith, e, ident_most c.args.ident, c.put.ensures.len)
