-- An element that holds a number in so many bytes.
use Rattle.std.proofs.Common.{◌∙◌, length, ap, arith}
use Rattle.ffv1_matroska.proofs.SpelledLengths.{ident_most, number_long}
use Rattle.ffv1_matroska.proofs.write.bytes.Bytes.number.Goals as goal

pub put-requires : goal.put-requires
put-requires c =
    let e = ap length (c.as_slice.ensures ∙ c.spelled_number-element.ensures) ∙ number_long
    c.args.ident c.args.width c.args.number in
    omega (arith, e, ident_most c.args.ident)

pub returns-clause-len : goal.returns-clause-len
returns-clause-len c =
    let e = ap length (c.as_slice.ensures ∙ c.spelled_number-element.ensures) ∙ number_long
    c.args.ident c.args.width c.args.number in
    omega (arith, e, ident_most c.args.ident, c.put.ensures.len)

pub returns-clause-short : goal.returns-clause-short
returns-clause-short c =
    let e = ap length (c.as_slice.ensures ∙ c.spelled_number-element.ensures) ∙ number_long
    c.args.ident c.args.width c.args.number in
    omega (arith, e, ident_most c.args.ident, c.put.ensures.len)
