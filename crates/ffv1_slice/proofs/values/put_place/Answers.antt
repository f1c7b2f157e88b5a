-- Puts the place of a slice of one cell.
use Rattle.std.proofs.Common.{[], ◌∷◌}
use Rattle.ffv1_range.proofs.Growth.{on_err}
use Rattle.ffv1_slice.proofs.CallsGive.{refused_first_of, refused_behind}
use Rattle.ffv1_slice.proofs.CallsGive.{and_puts}
use Rattle.ffv1_slice.proofs.values.put_place.Goals as goal

pub returns-clause-ok : goal.returns-clause-ok
returns-clause-ok g c = and_puts (c.args.column ∷ []) (c.args.row ∷ 0 ∷ 0 ∷ [])
    c.in_ok-put_number.ensures.ok c.in_ok-put_three.ensures.ok

pub returns-in_err-put_number-clause-refused : goal.returns-in_err-put_number-clause-refused
returns-in_err-put_number-clause-refused g c =
    on_err c.from_residual.result
    (refused_first_of _ c.args.encoder.now _ (c.args.column ∷ []) (c.args.row ∷ 0 ∷ 0 ∷ [])
    c.in_err-put_number.ensures.refused)

pub returns-in_err-put_three-clause-refused : goal.returns-in_err-put_three-clause-refused
returns-in_err-put_three-clause-refused g c =
    on_err c.from_residual-in_err-put_three.result
    (refused_behind _ c.args.encoder.now c.put_number.new.encoder _ _ (c.args.column ∷ [])
    (c.args.row ∷ 0 ∷ 0 ∷ []) c.in_ok-put_number.ensures.ok c.in_err-put_three.ensures.refused)
