-- Writes fields, one after the other.
use Rattle.std.proofs.Common.{[]}
use Rattle.std.proofs.lemmas.Result.{err_from_is_err_and}
use Rattle.ffv1_avi.specs.Written.{field_bytes}
use Rattle.ffv1_avi.specs.declared.field.Field.TheVariants.{Name}
use Rattle.ffv1_reads.proofs.Writing.{pieces_stop}
use Rattle.ffv1_avi.proofs.field.put_fields.Goals as goal

pub returns-in_err-put : goal.returns-in_err-put
returns-in_err-put g c =
    let p = err_from_is_err_and c.from_residual.result c.from_residual.ensures.1 in
    let inv = c.loop-field.invariant in
    rw (p.1, p.2) (pieces_stop field_bytes c.args.fields.now c.loop-field.field-index (Name []) _ _
    _ _ _ _ c.in_err-put.field-0.0 c.loop-field-test.true inv.0 inv.1
    (rw c.field_bytes.ensures at c.in_err-put.ensures))
