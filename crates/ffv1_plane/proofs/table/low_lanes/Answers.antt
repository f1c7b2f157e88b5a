-- The low eight bits of 16 differences.
use Rattle.std.proofs.Common.{map, ap, ℕ, ◌≡◌, ◌<◌, ◌∙◌, bit_and, arith}
use Rattle.std.proofs.lemmas.Nat.{and_mask}
use Rattle.std.proofs.lemmas.Simd.{zip2_of_maps, splat_is_map, map-map}
use Rattle.ffv1_plane.specs.Context.{low}
use Rattle.ffv1_plane.proofs.LaneValues.{minus, by_values, low_fits}
use Rattle.ffv1_plane.proofs.table.low_lanes.Goals as goal

pub overflow_cast-result : goal.overflow_cast-result
overflow_cast-result c = low_fits _

low_is : (a b : ℕ) → b < 65536 → bit_and (minus a b) 255 ≡ low a b
low_is a b fits = and_mask (minus a b) 8 ∙ omega (arith, fits)

pub returns : goal.returns
returns c = λ places f g long a b fits.
    by_values places _ (λ x. bit_and (minus (f x) (g x)) 255) (λ x. low (f x) (g x))
    (ap (map (λ x. x)) (zip2_of_maps bit_and _ _ places (zip2_of_maps minus f g places a b)
    (splat_is_map places 16 255 long)) ∙ map-map _ _ places)
    (λ x. low_is (f x) (g x) (fits x))
