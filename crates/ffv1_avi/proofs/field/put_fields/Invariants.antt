use Rattle.std.proofs.Common.{◌≡◌, take}
use Rattle.std.specs.Io.KnownBytes.{Appends}
use Rattle.ffv1_avi.specs.Written.{fields_bytes}
use Rattle.ffv1_avi.proofs.field.put_fields.Given as goal

abbrev pub invariant-loop-field : goal.invariant-loop-field
invariant-loop-field g l =
    (g.W.ByteOut.failures l.out ≡ g.W.ByteOut.failures l.initial.out)
    × Appends (g.W.ByteOut.contents l.initial.out) (g.W.ByteOut.contents l.out)
    (fields_bytes (take l.field-index l.fields))
