use Rattle.std.proofs.Common.{◌≡◌, ◌≤◌, None, take}
use Rattle.std.specs.Io.KnownBytes.{Consumes}
use Rattle.ffv1_y4m.specs.Passage.{known_text}
use Rattle.ffv1_y4m.specs.HeaderLine.{Without}
use Rattle.ffv1_y4m.proofs.reading.read_line.Given as goal

abbrev pub invariant-loop-len : goal.invariant-loop-len
invariant-loop-len g l =
    Consumes (known_text l.initial.first (g.R.ByteIn.remaining l.initial.input))
    (known_text l.first (g.R.ByteIn.remaining l.input)) (take l.len l.line)
    × Without 10 (take l.len l.line)
    × (g.R.ByteIn.failures l.input ≡ g.R.ByteIn.failures l.initial.input)
    × (1 ≤ l.len → l.first ≡ None)
