-- The numbers of the contexts of 16 places (RFC 9043, 3.5), and modulo 65536 the differences of
-- their samples to the predictions, their signs flipped where the contexts say so.
use Rattle.std.proofs.Common.{ℕ, ◌∙◌, ◌-◌, nat_lt, unsigned_abs, arith}
use Rattle.std.proofs.lemmas.Simd.{zip2_of_maps, splat_is_map}
use mir.Syntax.{w16}
use Rattle.ffv1_plane.specs.Quantisation.{contexts_of}
use Rattle.ffv1_plane.specs.Context.{size_of, flip_of}
use Rattle.ffv1_plane.specs.Prediction.{predicted}
use Rattle.ffv1_plane.specs.Lanes.{difference_modulo}
use Rattle.ffv1_plane.specs.Raised.{raised_sum}
use Rattle.ffv1_plane.proofs.LaneValues.{by_values, chosen}
use Rattle.ffv1_plane.proofs.LaneResiduals.{minus, lane_size, lane_flip, difference_is}
use Rattle.ffv1_plane.proofs.lanes.differ_lanes.Goals as goal

pub returns-clause-sizes : goal.returns-clause-sizes
returns-clause-sizes g c = λ places a long is.
    let set = c.args.set.now in
    let half = contexts_of set - 1 in
    let sum = λ (x : ℕ). raised_sum set (a x) in
    let sums = c.sum_lanes-sums.ensures.sums places a long is in
    let halves = c.requires.lanes.half ∙ splat_is_map places 16 half long in
    by_values places _ _ (λ (x : ℕ). size_of set (a x))
    (chosen w16 nat_lt places _ _ _ _ sum (λ (x : ℕ). half) (λ (x : ℕ). minus half (sum x))
    (λ (x : ℕ). minus (sum x) half) sums halves (zip2_of_maps minus _ _ places halves sums)
    (zip2_of_maps minus _ _ places sums halves))
    (λ x. let most = c.sum_lanes-sums.ensures.most (a x) in lane_size set (a x) (sum x) half
    (c.sum_lanes-sums.ensures.context (a x)) (omega (arith, most, c.sum_lanes-sums.ensures.few))
    (omega (arith, c.sum_lanes-sums.ensures.few)))

pub returns-clause-differences : goal.returns-clause-differences
returns-clause-differences g c = λ places a s long is samples.
    let set = c.args.set.now in
    let half = contexts_of set - 1 in
    let sum = λ (x : ℕ). raised_sum set (a x) in
    let p = λ (x : ℕ). unsigned_abs (predicted (a x)) in
    let sums = c.sum_lanes-sums.ensures.sums places a long is in
    let halves = c.requires.lanes.half ∙ splat_is_map places 16 half long in
    let predictions = c.predict_lanes-predictions.ensures places a is in
    let differences = chosen w16 nat_lt places _ _ _ _ sum (λ (x : ℕ). half)
    (λ (x : ℕ). minus (p x) (s x)) (λ (x : ℕ). minus (s x) (p x)) sums halves
    (zip2_of_maps minus _ _ places predictions samples)
    (zip2_of_maps minus _ _ places samples predictions) in
    by_values places _ _ (λ (x : ℕ). difference_modulo (flip_of set (a x)) (p x) (s x))
    differences
    (λ x. let flip = lane_flip set (a x) (sum x) half (c.sum_lanes-sums.ensures.context (a x)) in
    rw flip (difference_is (flip_of set (a x)) (p x) (s x)))
