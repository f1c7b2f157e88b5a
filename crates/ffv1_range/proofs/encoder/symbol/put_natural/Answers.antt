-- A number without a sign.
use Rattle.std.proofs.Common.{◌<◌, arith}
use Rattle.ffv1_range.proofs.Signed.{unsigned_is, unsigned_zero}
use Rattle.ffv1_range.proofs.encoder.symbol.put_natural.Goals as goal

pub returns-then-number-eq0-clause-writes : goal.returns-then-number-eq0-clause-writes
returns-then-number-eq0-clause-writes g c = rw (unsigned_zero c.args.number c.if-number-eq0.true)
    c.in_ok-put_slot.ensures.writes

pub returns-clause-writes : goal.returns-clause-writes
returns-clause-writes g c =
    let positive : 0 < c.args.number = omega (arith, c.if-number-eq0.false) in
    rw (unsigned_is c.args.number positive) c.in_ok-put_magnitude.ensures.writes
