use Rattle.std.proofs.Common.{◌≡◌, take}
use Rattle.std.specs.Io.KnownBytes.{Consumes}
use Rattle.ffv1_y4m.specs.Pictures.{frame_line}
use Rattle.ffv1_y4m.proofs.reading.read_frame_line.Given as goal

abbrev pub invariant-loop-place : (g : goal.Over) → goal.Live-loop-place g → Type 0
invariant-loop-place g l =
    Consumes (g.R.ByteIn.remaining l.initial.input) (g.R.ByteIn.remaining l.input)
    (take l.place frame_line)
    × (g.R.ByteIn.failures l.input ≡ g.R.ByteIn.failures l.initial.input)
