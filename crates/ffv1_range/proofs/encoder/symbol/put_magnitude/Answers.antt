-- A number that is not 0, without its sign.
use Rattle.ffv1_range.proofs.Signed.{magnitude_writes}
use Rattle.ffv1_range.proofs.Growth.{on_err, slot_grows, ones_grow, bits_grow}
use Rattle.ffv1_range.proofs.encoder.symbol.put_magnitude.Goals as goal

pub returns-clause-writes : goal.returns-clause-writes
returns-clause-writes g c =
    let place = c.exponent-exponent.ensures.value in
    magnitude_writes _ _ _ _ _ _ _ _ _ c.args.number c.in_ok-put_slot.ensures.writes
    (rw place at c.in_ok-put_exponent.ensures.writes)
    (rw place at c.in_ok-put_mantissa.ensures.writes)

pub returns-in_err-put_slot-clause-refused : goal.returns-in_err-put_slot-clause-refused
returns-in_err-put_slot-clause-refused g c =
    on_err c.from_residual.result (slot_grows _ _ _ c.args.number c.in_err-put_slot.ensures.refused)

pub returns-in_err-put_exponent-clause-refused : goal.returns-in_err-put_exponent-clause-refused
returns-in_err-put_exponent-clause-refused g c =
    on_err c.from_residual-in_err-put_exponent.result
    (ones_grow _ _ _ _ _ c.args.number c.in_ok-put_slot.ensures.writes
    (rw c.exponent-exponent.ensures.value at c.in_err-put_exponent.ensures.refused))

pub returns-in_err-put_mantissa-clause-refused : goal.returns-in_err-put_mantissa-clause-refused
returns-in_err-put_mantissa-clause-refused g c =
    let place = c.exponent-exponent.ensures.value in
    on_err c.from_residual-in_err-put_mantissa.result
    (bits_grow _ _ _ _ _ _ _ c.args.number c.in_ok-put_slot.ensures.writes
    (rw place at c.in_ok-put_exponent.ensures.writes)
    (rw place at c.in_err-put_mantissa.ensures.refused))
