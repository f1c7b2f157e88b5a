use Rattle.std.proofs.Common.{◌≡◌, ◌*◌, length, take}
use Rattle.ffv1_y4m.specs.Ppm.{in_turn}
use Rattle.ffv1_y4m.proofs.ppm_writer.interleave_bytes.Given as goal

abbrev pub invariant-loop-place : goal.invariant-loop-place
invariant-loop-place l =
    (length l.text ≡ 3 * length l.red)
    × (take (3 * l.place) l.text ≡ in_turn (take l.place l.red) (take l.place l.green)
    (take l.place l.blue))
