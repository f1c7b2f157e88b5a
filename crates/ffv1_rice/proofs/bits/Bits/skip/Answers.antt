-- Goes past so many bits, at most 32, which are left.
use Rattle.std.proofs.Common.{◌≡◌, ◌∙◌, sym, ap, ◌+◌, ◌-◌, ◌*◌, ◌/◌, ◌%◌, length, drop, arith}
use Rattle.ffv1_rice.proofs.Fields.{length-bits_from, drop-bits_from}
use Rattle.ffv1_rice.proofs.bits.Bits.skip.Goals as goal

pub invariant_of-self : goal.invariant_of-self
invariant_of-self c =
    let b = c.self.inside in
    let long : length c.args.self.now ≡ 8 * length b.bytes.now - (8 * b.place + b.turn) =
    ap length (sym c.self.view_is) ∙ length-bits_from b.bytes.now (8 * b.place + b.turn)
    (8 * length b.bytes.now - (8 * b.place + b.turn)) in
    let within = c.self.invariant.within in
    let left = c.requires.left in
    record { few = omega arith; within = omega (arith, long, within, left) }

pub returns : goal.returns
returns c =
    let b = c.self.inside in
    let n = 8 * length b.bytes.now - (8 * b.place + b.turn) in
    let at = 8 * (b.place + (b.turn + c.args.count) / 8) + (b.turn + c.args.count) % 8 in
    let long : length c.args.self.now ≡ n =
    ap length (sym c.self.view_is) ∙ length-bits_from b.bytes.now (8 * b.place + b.turn) n in
    let within = c.self.invariant.within in
    let left = c.requires.left in
    sym (ap (drop c.args.count) (sym c.self.view_is)
    ∙ drop-bits_from b.bytes.now (8 * b.place + b.turn) at n c.args.count
    (8 * length b.bytes.now - at)
    (omega (arith, long, within, left)) (omega arith))
