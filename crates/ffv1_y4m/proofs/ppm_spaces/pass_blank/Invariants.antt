use Rattle.std.proofs.Common.{◌≡◌, ◌-◌, false}
use Rattle.ffv1_y4m.specs.Spaces.{blank_read}
use Rattle.ffv1_y4m.proofs.SpacesRead.{Walked}
use Rattle.ffv1_y4m.proofs.ppm_spaces.pass_blank.Given as goal

abbrev pub invariant-loop-place : goal.invariant-loop-place
invariant-loop-place g l =
    Walked (blank_read l.room false) (blank_read (l.room - l._place) l.inside)
    (g.R.ByteIn.remaining l.initial.input) (g.R.ByteIn.remaining l.input)
    × (g.R.ByteIn.failures l.input ≡ g.R.ByteIn.failures l.initial.input)
