-- An element of some content, its size in one byte.
use Rattle.std.proofs.Common.{◌∙◌, length, ap, arith}
use Rattle.ffv1_matroska.proofs.SpelledLengths.{ident_most, short_header_long}
use Rattle.ffv1_matroska.proofs.write.bytes.Bytes.short.Goals as goal

pub put-requires : goal.put-requires
put-requires c =
    let e = ap length (c.as_slice.ensures ∙ c.short_header-header.ensures) ∙ short_header_long
    c.args.ident (length c.args.content.now) in
    omega (arith, e, ident_most c.args.ident)

pub put-requires-2 : goal.put-requires-2
put-requires-2 c =
    let e = ap length (c.as_slice.ensures ∙ c.short_header-header.ensures) ∙ short_header_long
    c.args.ident (length c.args.content.now) in
    omega (arith, e, ident_most c.args.ident, c.put.ensures.len)

pub returns-clause-len : goal.returns-clause-len
returns-clause-len c =
    let e = ap length (c.as_slice.ensures ∙ c.short_header-header.ensures) ∙ short_header_long
    c.args.ident (length c.args.content.now) in
    omega (arith, e, ident_most c.args.ident, c.put.ensures.len, c.put-2.ensures.len)
