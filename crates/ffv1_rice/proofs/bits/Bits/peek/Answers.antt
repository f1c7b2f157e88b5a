-- The next 32 bits as a number.
use Rattle.std.proofs.Common.{◌∙◌, sym, ap, ◌+◌, ◌-◌, ◌*◌, ◌/◌, ◌%◌, ◌^◌, length, arith, refl}
use Rattle.ffv1_rice.specs.Bits.{number_of}
use Rattle.ffv1_rice.proofs.Fields.{shifted, number_left}
use Rattle.ffv1_rice.proofs.bits.Bits.peek.Goals as goal

pub returns : goal.returns
returns c =
    let b = c.self.inside in
    let at = 8 * b.place + b.turn in
    let few = c.self.invariant.few in
    let within = c.self.invariant.within in
    ap (λ window. window * 2 ^ b.turn % 18446744073709551616 / 4294967296) c.window-window.ensures
    ∙ shifted b.bytes.now (8 * b.place) b.turn 64 32 refl (omega (arith, few))
    ∙ sym (number_left b.bytes.now at (8 * length b.bytes.now - at) 32 (omega (arith, within)))
    ∙ ap (number_of 32) c.self.view_is
