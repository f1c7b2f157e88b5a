-- Puts three numbers.
use Rattle.std.proofs.Common.{[], ◌∷◌}
use Rattle.ffv1_range.proofs.Growth.{on_err}
use Rattle.ffv1_slice.proofs.CallsGive.{refused_first_of, refused_behind}
use Rattle.ffv1_slice.proofs.CallsGive.{and_puts}
use Rattle.ffv1_slice.proofs.values.put_three.Goals as goal

pub returns-clause-ok : goal.returns-clause-ok
returns-clause-ok g c =
    and_puts (c.args.first ∷ []) (c.args.second ∷ c.args.third ∷ []) c.in_ok-put_number.ensures.ok
    (and_puts (c.args.second ∷ []) (c.args.third ∷ []) c.in_ok-put_number-2.ensures.ok
    c.in_ok-put_number-3.ensures.ok)

pub returns-in_err-put_number-clause-refused : goal.returns-in_err-put_number-clause-refused
returns-in_err-put_number-clause-refused g c =
    on_err c.from_residual.result
    (refused_first_of _ c.args.encoder.now _ (c.args.first ∷ []) (c.args.second ∷ c.args.third ∷ [])
    c.in_err-put_number.ensures.refused)

pub returns-in_err-put_number-2-clause-refused : goal.returns-in_err-put_number-2-clause-refused
returns-in_err-put_number-2-clause-refused g c =
    on_err c.from_residual-in_err-put_number-2.result
    (refused_behind _ c.args.encoder.now c.put_number.new.encoder _ _ (c.args.first ∷ [])
    (c.args.second ∷ c.args.third ∷ []) c.in_ok-put_number.ensures.ok
    (refused_first_of _ c.put_number.new.encoder _ (c.args.second ∷ []) (c.args.third ∷ [])
    c.in_err-put_number-2.ensures.refused))

pub returns-in_err-put_number-3-clause-refused : goal.returns-in_err-put_number-3-clause-refused
returns-in_err-put_number-3-clause-refused g c =
    on_err c.from_residual-in_err-put_number-3.result
    (refused_behind _ c.args.encoder.now c.put_number.new.encoder _ _ (c.args.first ∷ [])
    (c.args.second ∷ c.args.third ∷ []) c.in_ok-put_number.ensures.ok
    (refused_behind _ c.put_number.new.encoder c.put_number-2.new.encoder _ _ (c.args.second ∷ [])
    (c.args.third ∷ []) c.in_ok-put_number-2.ensures.ok c.in_err-put_number-3.ensures.refused))
