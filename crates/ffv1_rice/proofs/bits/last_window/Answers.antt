-- The 64 bits of eight bytes from a place on, of which not all are there.
use Rattle.std.proofs.Common.{◌∙◌, sym, ap₂, ◌+◌, ◌*◌, arith}
use Rattle.ffv1_rice.specs.Bits.{bits_from}
use Rattle.ffv1_rice.proofs.Fields.{number_bytes, window_small, none_read}
use Rattle.ffv1_rice.proofs.bits.last_window.Goals as goal

pub loop-k-init : goal.loop-k-init
loop-k-init c = none_read (bits_from c.args.bytes.now (8 * c.args.place) 0)

pub overflow_mul-window : goal.overflow_mul-window
overflow_mul-window c =
    let small = window_small c.args.bytes.now (8 * c.args.place) c.loop-k.k c.loop-k.window
    c.loop-k-test.true c.loop-k.invariant in
    omega (arith, small)

pub overflow_add-window : goal.overflow_add-window
overflow_add-window c =
    let small = window_small c.args.bytes.now (8 * c.args.place) c.loop-k.k c.loop-k.window
    c.loop-k-test.true c.loop-k.invariant in
    let byte = c.byte_at.ensures.byte in
    omega (arith, small, byte)

pub loop-k-preserved : goal.loop-k-preserved
loop-k-preserved c =
    let value = c.byte_at.ensures.value in
    let byte = c.byte_at.ensures.byte in
    ap₂ (λ window byte. window * 256 + byte) c.loop-k.invariant value
    ∙ sym (number_bytes c.args.bytes.now c.args.place c.loop-k.k (rw value at byte))
