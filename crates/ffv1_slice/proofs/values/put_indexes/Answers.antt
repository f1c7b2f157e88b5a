-- Puts the set indexes, two or three.
use Rattle.std.proofs.Common.{[], ◌∷◌}
use Rattle.ffv1_range.proofs.Growth.{on_err}
use Rattle.ffv1_slice.proofs.CallsGive.{refused_behind, indexes_first, indexes_second}
use Rattle.ffv1_slice.proofs.CallsGive.{and_puts}
use Rattle.ffv1_slice.proofs.values.put_indexes.Goals as goal

pub returns-in_ok-put_number-3-clause-ok : goal.returns-in_ok-put_number-3-clause-ok
returns-in_ok-put_number-3-clause-ok g c =
    rw (c.if-extra.true, ← c.from.ensures, ← c.from-2.ensures, ← c.from-then-extra.ensures)
    (and_puts (c.from.result ∷ []) (c.from-2.result ∷ c.from-then-extra.result ∷ [])
    c.in_ok-put_number.ensures.ok
    (and_puts (c.from-2.result ∷ []) (c.from-then-extra.result ∷ []) c.in_ok-put_number-2.ensures.ok
    c.in_ok-put_number-3.ensures.ok))

pub returns-else-extra-clause-ok : goal.returns-else-extra-clause-ok
returns-else-extra-clause-ok g c =
    rw (c.if-extra.false, ← c.from.ensures, ← c.from-2.ensures)
    (and_puts (c.from.result ∷ []) (c.from-2.result ∷ []) c.in_ok-put_number.ensures.ok
    c.in_ok-put_number-2.ensures.ok)

pub returns-in_err-put_number-clause-refused : goal.returns-in_err-put_number-clause-refused
returns-in_err-put_number-clause-refused g c =
    on_err c.from_residual.result
    (indexes_first c.args.extra _ c.args.encoder.now _ c.args.indexes.now
    (rw c.from.ensures at c.in_err-put_number.ensures.refused))

pub returns-in_err-put_number-2-clause-refused : goal.returns-in_err-put_number-2-clause-refused
returns-in_err-put_number-2-clause-refused g c =
    on_err c.from_residual-in_err-put_number-2.result
    (indexes_second c.args.extra _ c.args.encoder.now c.put_number.new.encoder _ _
    c.args.indexes.now
    (rw c.from.ensures at c.in_ok-put_number.ensures.ok)
    (rw c.from-2.ensures at c.in_err-put_number-2.ensures.refused))

pub returns-in_err-put_number-3-clause-refused : goal.returns-in_err-put_number-3-clause-refused
returns-in_err-put_number-3-clause-refused g c =
    on_err c.from_residual-in_err-put_number-3.result
    (rw (c.if-extra.true, ← c.from.ensures, ← c.from-2.ensures, ← c.from-then-extra.ensures)
    (refused_behind _ c.args.encoder.now c.put_number.new.encoder _ _ (c.from.result ∷ [])
    (c.from-2.result ∷ c.from-then-extra.result ∷ []) c.in_ok-put_number.ensures.ok
    (refused_behind _ c.put_number.new.encoder c.put_number-2.new.encoder _ _ (c.from-2.result ∷ [])
    (c.from-then-extra.result ∷ []) c.in_ok-put_number-2.ensures.ok
    c.in_err-put_number-3.ensures.refused)))
