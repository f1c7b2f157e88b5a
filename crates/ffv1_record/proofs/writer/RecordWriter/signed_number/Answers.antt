-- A signed number.
use Rattle.std.proofs.Common.{◌≡◌}
use Rattle.std.specs.Int.{w32}
use mir.Val.{SFits, to_z, of_z}
use Rattle.std.proofs.lemmas.Int.{to_z-of_z}
use Rattle.ffv1_range.proofs.Windows.{signed_below}
use Rattle.ffv1_record.proofs.EncoderSteps.{wrote_steps}
use Rattle.ffv1_record.proofs.writer.RecordWriter.signed_number.Goals as goal

pub returns-clause-ok : goal.returns-clause-ok
returns-clause-ok g c =
    let fits : SFits w32 c.args.number = c.ranges.number in
    let is : to_z w32 (of_z w32 c.args.number) ≡ c.args.number = to_z-of_z w32 c.args.number fits in
    rw (← c.self.view_is) (wrote_steps _ _ _ _ _ c.self.told (signed_below c.args.number)
    (rw (c.self.invariant.0, is) at c.in-Ok.ensures.ok))
