use Rattle.std.proofs.Common.{◌≡◌, ◌*◌, length, take}
use Rattle.ffv1_y4m.specs.Ppm.{bytes_of_pairs, each_third, pairs_of, turned}
use Rattle.ffv1_y4m.proofs.pairs.part_pairs.Given as goal

abbrev pub invariant-loop-place : goal.invariant-loop-place
invariant-loop-place l =
    (length l.plane ≡ length l.fn.plane)
    × (take (2 * l.place) l.plane ≡ bytes_of_pairs
    (take l.place (each_third l.first (turned (pairs_of l.text)))))
