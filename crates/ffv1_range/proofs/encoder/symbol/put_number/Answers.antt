-- A signed number.
use Rattle.std.proofs.Common.{rules}
use Rattle.std.proofs.lemmas.Int.{to_z-of_z}
use Rattle.std.specs.Int.{w32}
use mir.Val.{SFits}
use Rattle.ffv1_range.proofs.Growth.{on_err, grows_first, grows_second}
use Rattle.ffv1_range.proofs.Signed.{number_writes, signed_is, zero_is}
use Rattle.ffv1_range.proofs.encoder.symbol.put_number.Goals as goal

pub returns-then-number-eq0-clause-writes : goal.returns-then-number-eq0-clause-writes
returns-then-number-eq0-clause-writes g c =
    let fits : SFits w32 c.args.value = search rules in
    let size = simp to_z-of_z at c.unsigned_abs-number.ensures.value in
    rw (zero_is c.args.value _ size c.if-number-eq0.true) c.in_ok-put_slot.ensures.writes

pub returns-clause-writes : goal.returns-clause-writes
returns-clause-writes g c =
    let fits : SFits w32 c.args.value = search rules in
    let size = simp to_z-of_z at c.unsigned_abs-number.ensures.value in
    let last = simp to_z-of_z at c.in_ok-put_slot-2.ensures.writes in
    rw (signed_is c.args.value c.unsigned_abs-number.result size c.if-number-eq0.false)
    (number_writes _ _ _ _ _ _ _ c.unsigned_abs-number.result _ c.in_ok-put_magnitude.ensures.writes
    (rw (c.sign_slot-slot.ensures, c.exponent.ensures.value) at last))

pub returns-in_err-put_magnitude-clause-refused : goal.returns-in_err-put_magnitude-clause-refused
returns-in_err-put_magnitude-clause-refused g c =
    let fits : SFits w32 c.args.value = search rules in
    let size = simp to_z-of_z at c.unsigned_abs-number.ensures.value in
    on_err c.from_residual-in_err-put_magnitude.result
    (rw (signed_is c.args.value c.unsigned_abs-number.result size c.if-number-eq0.false)
    (grows_first _ _ _ _ _ c.in_err-put_magnitude.ensures.refused))

pub returns-in_err-put_slot-2-clause-refused : goal.returns-in_err-put_slot-2-clause-refused
returns-in_err-put_slot-2-clause-refused g c =
    let fits : SFits w32 c.args.value = search rules in
    let size = simp to_z-of_z at c.unsigned_abs-number.ensures.value in
    let last = simp to_z-of_z at c.in_err-put_slot-2.ensures.refused in
    on_err c.from_residual-in_err-put_slot-2.result
    (rw (signed_is c.args.value c.unsigned_abs-number.result size c.if-number-eq0.false)
    (grows_second _ _ _ _ _ _ _ c.in_ok-put_magnitude.ensures.writes
    (rw (c.sign_slot-slot.ensures, c.exponent.ensures.value) at last)))
