-- The element of a CRC-32 that is this sum (RFC 8794, 11.3.1).
use Rattle.std.proofs.Common.{◌≡◌, ◌∙◌, length, ap, arith, refl, append_assoc}
use Rattle.ffv1_matroska.specs.Written.{crc_element}
use Rattle.ffv1_matroska.proofs.SpelledLengths.{ident_most, short_header_long}
use Rattle.ffv1_matroska.proofs.write.bytes.Bytes.sum.Goals as goal

pub put-requires : goal.put-requires
put-requires c =
    let e = ap length (c.as_slice.ensures ∙ c.short_header-header.ensures) ∙ short_header_long 191
    4 in
    omega (arith, e, ident_most 191)

pub put-requires-2 : goal.put-requires-2
put-requires-2 c =
    let e = ap length (c.as_slice.ensures ∙ c.short_header-header.ensures) ∙ short_header_long 191
    4 in
    let four : length c.to_le_bytes.result ≡ 4 = ap length c.to_le_bytes.ensures in
    omega (arith, e, four, ident_most 191, c.put.ensures.len)

pub returns-clause-value : goal.returns-clause-value
unfolding crc_element
returns-clause-value c = λ content is. rw (
  ← is,
  c.put-2.ensures.value,
  c.put.ensures.value,
  c.as_slice.ensures,
  c.short_header-header.ensures,
  c.to_le_bytes.ensures,
  append_assoc,
) refl

pub returns-clause-len : goal.returns-clause-len
returns-clause-len c =
    let e = ap length (c.as_slice.ensures ∙ c.short_header-header.ensures) ∙ short_header_long 191
    4 in
    let four : length c.to_le_bytes.result ≡ 4 = ap length c.to_le_bytes.ensures in
    omega (arith, e, four, ident_most 191, c.put.ensures.len, c.put-2.ensures.len)
