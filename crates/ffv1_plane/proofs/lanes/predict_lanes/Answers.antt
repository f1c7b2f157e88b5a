-- The predictions of 16 places.
use Rattle.std.proofs.Common.{ℕ, max, min, unsigned_abs}
use Rattle.std.proofs.lemmas.Simd.{zip2_of_maps}
use Rattle.ffv1_plane.specs.Prediction.{predicted}
use Rattle.ffv1_plane.proofs.LaneValues.{by_values, lane_min, lane_max}
use Rattle.ffv1_plane.proofs.LaneResiduals.{minus, lane_prediction, prediction_size}
use Rattle.ffv1_plane.proofs.lanes.predict_lanes.Goals as goal

pub returns : goal.returns
returns c = λ places a is.
    let least = lane_min places _ _ (λ (x : ℕ). (a x).l) (λ (x : ℕ). (a x).t) is.l is.t in
    let most = lane_max places _ _ (λ (x : ℕ). (a x).l) (λ (x : ℕ). (a x).t) is.l is.t in
    let raised = lane_max places _ _ (λ (x : ℕ). (a x).tl) (λ (x : ℕ). min (a x).l (a x).t) is.tl
    least in
    let middle = lane_min places _ _ (λ (x : ℕ). max (a x).tl (min (a x).l (a x).t))
    (λ (x : ℕ). max (a x).l (a x).t) raised most in
    by_values places _ (λ (x : ℕ). lane_prediction (a x))
    (λ (x : ℕ). unsigned_abs (predicted (a x)))
    (zip2_of_maps minus _ _ places most (zip2_of_maps minus _ _ places middle least))
    (λ x. prediction_size (a x) (is.samples x))
