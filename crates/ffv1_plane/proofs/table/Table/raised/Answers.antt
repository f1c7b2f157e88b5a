-- The entry at the low eight bits of `a - b`, raised by the greatest.
use Rattle.std.proofs.Common.{◌≡◌, ◌+◌, ◌-◌, ◌%◌, arith}
use Rattle.ffv1_plane.specs.Context.{low}
use Rattle.ffv1_plane.proofs.Levels.{filled_from, half_room}
use Rattle.ffv1_plane.proofs.table.Table.raised.Goals as goal

pub returns-clause-value : goal.returns-clause-value
returns-clause-value g c =
    let same : (c.args.a + (65536 - c.args.b)) % 65536 % 256 ≡ low c.args.a c.args.b =
    omega arith in
    rw (same, ← c.self.view_is) (c.self.invariant.0.each (low c.args.a c.args.b) (omega arith))

pub returns-clause-half : goal.returns-clause-half
returns-clause-half g c = rw (← c.self.view_is)
    (half_room _ _ (filled_from _ c.self.invariant.0.filled).some c.self.invariant.0.room)
