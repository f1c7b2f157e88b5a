-- The bytes of a string, in which each control character from U+007F to U+009F is no UTF-8.
use Rattle.std.proofs.Common.{arith}
use Rattle.ffv1_outline.proofs.MaskedStrings.{masked_end, masked_more}
use Rattle.ffv1_outline.proofs.strings.masked.Goals as goal

pub loop-byte-preserved : goal.loop-byte-preserved
loop-byte-preserved g c =
    let more = masked_more c.loop-byte.bytes.items c.args.string.now _ c.loop-byte.after
    c.loop-byte.byte-index (omega (arith, c.loop-byte-test.true)) c.loop-byte.invariant in
    rw (c.in_ok-push.ensures.items, c.masked_byte.ensures) more

pub returns : goal.returns
returns g c =
    masked_end c.loop-byte.bytes.items c.args.string.now _ c.loop-byte.after c.loop-byte.byte-index
    c.loop-byte-test.false c.loop-byte.invariant
