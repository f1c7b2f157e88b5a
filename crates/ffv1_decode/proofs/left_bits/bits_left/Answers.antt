-- The bits of a slice that are left, behind its head or behind the last line that was read.
use Rattle.std.proofs.Common.{◌-◌, ◌*◌, length}
use Rattle.ffv1_decode.proofs.lemmas.left_bits.BitsBegin.{few_behind, begun_behind, woken_behind}
use Rattle.ffv1_decode.proofs.left_bits.bits_left.Goals as goal

pub returns-in-None-clause-few : goal.returns-in-None-clause-few
returns-in-None-clause-few c =
    rw c.behind.ensures (few_behind c.args.bytes.now (8 * c.bits_begin.result))

pub returns-in-None-clause-behind : goal.returns-in-None-clause-behind
returns-in-None-clause-behind c = λ a past read parked left.
    rw c.behind.ensures (begun_behind a c.args.bytes.now past read _ c.args.column.now.bits
    c.in-None.is left (c.bits_begin.ensures.behind a past parked))

pub returns-in-Some-clause-few : goal.returns-in-Some-clause-few
returns-in-Some-clause-few c =
    rw c.wake.ensures (few_behind c.args.bytes.now
    (8 * length c.args.bytes.now - c.in-Some.left))

pub returns-in-Some-clause-behind : goal.returns-in-Some-clause-behind
returns-in-Some-clause-behind c = λ a past read parked left.
    rw c.wake.ensures (woken_behind c.bits_that_are_left_are_the_last.ensures a c.args.bytes.now
    past read c.args.column.now.bits c.in-Some.left c.in-Some.is left)
