-- Packs a video into Matroska, or into AVI.
use Rattle.std.proofs.Common.{refl}
use Rattle.ffv1.proofs.streams.pack_into.Goals as goal

pub returns-in-Ok-clause-packs : goal.returns-in-Ok-clause-packs
returns-in-Ok-clause-packs g c =
    rw c.if-is_matroska.true (c.in-Ok.packed, c.in-Ok.ensures.packs, refl)

pub returns-in-Ok-pack_stream-clause-packs : goal.returns-in-Ok-pack_stream-clause-packs
returns-in-Ok-pack_stream-clause-packs g c =
    let arm = c.in-Ok-pack_stream in
    rw c.if-is_matroska.false (arm.packed, arm.ensures.packs, refl)

pub returns-in-Ok-clause-asks : goal.returns-in-Ok-clause-asks
returns-in-Ok-clause-asks g c =
    rw c.if-is_matroska.true (c.in-Ok.packed, c.in-Ok.ensures.asks, refl)
