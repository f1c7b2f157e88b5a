-- The signed number that comes next.
use Rattle.std.proofs.Common.{◌≡◌, rules}
use Rattle.std.specs.Int.{w32}
use mir.Val.{SFits, to_z, of_z}
use Rattle.std.proofs.lemmas.Int.{to_z-of_z}
use Rattle.ffv1_record.proofs.CallsGive.{gives_signed, refuses_signed}
use Rattle.ffv1_record.proofs.reader.RecordReader.signed_number.Goals as goal

pub returns-in_default-clause-gives : goal.returns-in_default-clause-gives
returns-in_default-clause-gives c = rw (← c.self.view_is)
    (refuses_signed _ _ _ _ c.self.told (rw c.self.invariant.0 at c.in_default.ensures.refused.1))

pub returns-clause-gives : goal.returns-clause-gives
returns-clause-gives c =
    let fits : SFits w32 c.in-Ok.number = search rules in
    let is : to_z w32 (of_z w32 c.in-Ok.number) ≡ c.in-Ok.number = to_z-of_z w32 c.in-Ok.number
    fits in
    rw (← c.self.view_is) (rw is (gives_signed _ _ _ _ c.in-Ok.number c.self.told
    c.in-Ok.ensures.size (rw c.self.invariant.0 at c.in-Ok.ensures.follows)))
