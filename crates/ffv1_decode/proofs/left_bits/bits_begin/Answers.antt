-- The byte of a slice at which its bits begin, or its end, if that is before.
use Rattle.std.proofs.Common.{◌≤◌, ◌^◌, ◌-◌, refl, length, rules, inl, inr, arith}
use Rattle.ffv1_range.specs.Codes.{AreBytes}
use Rattle.ffv1_decode.proofs.lemmas.left_bits.BitsBegin.{none_parked, begins_behind}
use Rattle.ffv1_decode.proofs.left_bits.bits_begin.Goals as goal

pub returns-in-None-clause-behind : goal.returns-in-None-clause-behind
returns-in-None-clause-behind c = λ a past parked.
    none_parked c.args.bytes.now a.table c.args.column.now.parked past c.in-None.is parked

pub returns-then-place-bytes-clause-behind : goal.returns-then-place-bytes-clause-behind
returns-then-place-bytes-clause-behind c =
    let bytes : AreBytes c.args.bytes.now = λ k. (c.type_inv.bytes k).fits in
    let few : length c.args.bytes.now ≤ 2 ^ 64 - 1 = search rules in
    begins_behind c.args.bytes.now c.in-Some.parked c.args.column.now.parked
    c.bits_place-place.result (length c.args.bytes.now) bytes few c.in-Some.is
    c.bits_place-place.ensures (inr (refl, omega (arith, c.if-place-bytes.true)))

pub returns-else-place-bytes-clause-behind : goal.returns-else-place-bytes-clause-behind
returns-else-place-bytes-clause-behind c =
    let bytes : AreBytes c.args.bytes.now = λ k. (c.type_inv.bytes k).fits in
    let few : length c.args.bytes.now ≤ 2 ^ 64 - 1 = search rules in
    begins_behind c.args.bytes.now c.in-Some.parked c.args.column.now.parked
    c.bits_place-place.result c.bits_place-place.result bytes few c.in-Some.is
    c.bits_place-place.ensures (inl (refl, omega (arith, c.if-place-bytes.false)))
