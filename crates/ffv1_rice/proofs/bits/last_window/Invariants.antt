use Rattle.std.proofs.Common.{◌≡◌, ◌*◌}
use Rattle.ffv1_rice.specs.Bits.{bits_from, number_of}
use Rattle.ffv1_rice.proofs.bits.last_window.Given as goal

abbrev pub invariant-loop-k : goal.invariant-loop-k
invariant-loop-k l =
    l.window ≡ number_of (8 * l.k) (bits_from l.bytes (8 * l.place) (8 * l.k))
