-- 16 differences modulo 65536, folded to `bits` bits, each with `2^(bits - 1)` added.
use Rattle.std.proofs.Common.{ℕ, bit_and, ◌^◌, ◌-◌, ◌*◌, ◌%◌}
use Rattle.std.proofs.lemmas.Simd.{zip2_of_maps, splat_is_map}
use Rattle.ffv1_plane.specs.Lanes.{raised_modulo}
use Rattle.ffv1_plane.proofs.LaneValues.{by_values}
use Rattle.ffv1_plane.proofs.LaneResiduals.{raised_lane}
use Rattle.ffv1_plane.proofs.LaneSums.{plus}
use Rattle.ffv1_plane.proofs.lanes.raise_lanes.Goals as goal

pub returns : goal.returns
returns c = λ places f long are.
    let bits = c.args.bits in
    let half = 1 * 2 ^ (bits - 1) % 65536 in
    let mask = 1 * 2 ^ bits % 65536 - 1 in
    by_values places _ _ (λ (x : ℕ). raised_modulo bits (f x))
    (zip2_of_maps bit_and _ _ places
    (zip2_of_maps plus f (λ (x : ℕ). half) places are (splat_is_map places 16 half long))
    (splat_is_map places 16 mask long))
    (λ x. raised_lane bits (f x) c.requires.some c.requires.few)
