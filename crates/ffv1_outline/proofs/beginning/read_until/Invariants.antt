use Rattle.std.proofs.Common.{◌≡◌, ℕ, ◌≤◌, ◌-◌, length, take}
use Rattle.std.specs.Io.KnownBytes.{Consumes}
use Rattle.ffv1_outline.proofs.beginning.read_until.Given as goal

abbrev pub invariant-loop-done : (g : goal.Over) → goal.Live-loop-done g → Type 0
invariant-loop-done g l =
    (l.done ≤ length l.buf)
    × Consumes (g.R.ByteIn.remaining l.initial.input) (g.R.ByteIn.remaining l.input)
    (take l.done l.buf)
    × (g.R.ByteIn.failures l.input ≡ g.R.ByteIn.failures l.initial.input)

abbrev pub decreases-loop-done : (g : goal.Over) → goal.Live-loop-done g → ℕ
decreases-loop-done g l = length l.buf - l.done
