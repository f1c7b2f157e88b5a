-- The bits after some bytes.
use Rattle.std.proofs.Common.{sym, ◌+◌, ◌-◌, ◌*◌, length, arith}
use Rattle.ffv1_rice.proofs.Fields.{drop-bits_from}
use Rattle.ffv1_rice.proofs.bits.Bits.behind.Goals as goal

pub returns : goal.returns
returns c =
    let bytes = c.args.bytes.now in
    let at = 8 * c.args.at + 0 in
    sym (drop-bits_from bytes 0 at (8 * length bytes) (8 * c.args.at) (8 * length bytes - at)
    (omega (arith, c.requires)) (omega arith))
