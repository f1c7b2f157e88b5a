-- How many bits are left.
use Rattle.std.proofs.Common.{◌≡◌, ◌∙◌, sym, ap, ◌+◌, ◌-◌, ◌*◌, length, arith}
use Rattle.ffv1_rice.proofs.Fields.{length-bits_from}
use Rattle.ffv1_rice.proofs.bits.Bits.park.Goals as goal

pub returns : goal.returns
returns c =
    let b = c.self.inside in
    let long : length c.args.self.now ≡ 8 * length b.bytes.now - (8 * b.place + b.turn) =
    ap length (sym c.self.view_is) ∙ length-bits_from b.bytes.now (8 * b.place + b.turn)
    (8 * length b.bytes.now - (8 * b.place + b.turn)) in
    let within = c.self.invariant.within in
    let few = c.self.invariant.few in
    omega (arith, long, within, few)
