-- The content of a Segment: what comes after its ID and its size.
use Rattle.std.proofs.Common.{sym, arith}
use Rattle.ffv1_outline.proofs.VintLengths.{short_segment}
use Rattle.ffv1_outline.proofs.matroska_outline.segment_content.Goals as goal

pub returns-then-bytes-le4 : goal.returns-then-bytes-le4
returns-then-bytes-le4 c = sym (short_segment c.args.bytes.now (omega (arith, c.if-bytes-le4.true)))
