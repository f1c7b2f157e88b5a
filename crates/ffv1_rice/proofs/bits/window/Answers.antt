-- The 64 bits of eight bytes from a place on.
use Rattle.std.proofs.Common.{ℕ, ◌<◌, slice_index, arith}
use Rattle.ffv1_rice.proofs.Fields.{eight_bytes}
use Rattle.ffv1_rice.proofs.bits.window.Goals as goal

pub returns : goal.returns
returns c =
    let byte : (k : ℕ) → slice_index c.args.bytes.now k < 256 = λ k. (c.type_inv.bytes k).fits in
    let whole = eight_bytes c.args.bytes.now c.args.place byte in
    omega (arith, whole, c.from_be_bytes.ensures)
