-- The last bits of some bytes.
use Rattle.std.proofs.Common.{◌≡◌, sym, ◌+◌, ◌-◌, ◌*◌, length, arith}
use Rattle.ffv1_rice.proofs.Fields.{drop-bits_from}
use Rattle.ffv1_rice.proofs.bits.ParkedBits.wake.Goals as goal

pub returns : goal.returns
returns c =
    let b = c.self.inside in
    let bytes = c.args.bytes.now in
    let n = 8 * length bytes in
    let at = 8 * (length bytes - b.left) + b.turn in
    let many : 8 * b.left - b.turn ≡ c.args.self.now = c.self.view_is in
    let few = c.self.invariant.few in
    let within = c.self.invariant.within in
    let least = c.requires in
    sym (drop-bits_from bytes 0 at n (n - c.args.self.now) (n - at)
    (omega (arith, many, few, within, least)) (omega (arith, many, few, within, least)))
