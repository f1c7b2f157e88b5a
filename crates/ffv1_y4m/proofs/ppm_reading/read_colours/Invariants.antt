use Rattle.std.proofs.Common.{◌≡◌, ℕ, ◌≤◌, ◌-◌, ◌∷◌, [], length, take}
use Rattle.ffv1_y4m.specs.Ppm.{half_of}
use Rattle.ffv1_y4m.proofs.Colours.{Colours}
use Rattle.ffv1_y4m.proofs.ppm_reading.read_colours.Given as goal

abbrev pub invariant-loop-done : (g : goal.Over) → goal.Live-loop-done g → Type 0
invariant-loop-done g l =
    (l.done ≤ length l.red)
    × (length l.green ≡ length l.red)
    × (length l.blue ≡ length l.red)
    × (g.R.ByteIn.failures l.input ≡ g.R.ByteIn.failures l.initial.input)
    × (half_of l.depth l.done ≡ 0)
    × Colours l.depth (g.R.ByteIn.remaining l.initial.input) (g.R.ByteIn.remaining l.input) l.done
    (take l.done l.red ∷ take l.done l.green ∷ take l.done l.blue ∷ [])

abbrev pub decreases-loop-done : (g : goal.Over) → goal.Live-loop-done g → ℕ
decreases-loop-done g l = length l.red - l.done
