-- The lowest `bits` bits of a number.
use Rattle.std.proofs.Common.{◌≡◌, ap, ◌∙◌, arith, to_z, of_z}
use Rattle.std.proofs.lemmas.Int.{ints}
use Rattle.std.specs.Int.{w32}
use Rattle.ffv1_plane.proofs.Words.{masked}
use Rattle.ffv1_plane.proofs.of_bits.lowest_bits.Goals as goal

pub returns-clause-value : goal.returns-clause-value
returns-clause-value c =
    let same : to_z w32 (of_z w32 c.args.number) ≡ c.args.number = omega (arith, ints) in
    masked c.args.bits c.args.number c.cast_unsigned.result c.requires c.ranges.number
    (c.cast_unsigned.ensures ∙ ap (of_z w32) same)
