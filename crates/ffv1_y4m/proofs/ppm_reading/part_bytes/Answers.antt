-- Each third byte after the first so many.
use Rattle.std.proofs.Common.{arith}
use Rattle.ffv1_y4m.proofs.ColourThirds.{is_third}
use Rattle.ffv1_y4m.proofs.ppm_reading.part_bytes.Goals as goal

pub returns : goal.returns
returns c =
    let h = c.loop-place.invariant in
    is_third c.args.samples.now c.loop-place.plane c.args.first c.requires.first h.0
    (λ i inside. h.1 i (omega (arith, inside)))
