-- The contexts and the residuals of 16 places from `at` on, after those before them, by the set's
-- lanes.
use Rattle.std.proofs.Common.{ap, ◌∙◌, sym, ℕ, ℤ, ◌+◌, slice_index, map, arith}
use Rattle.std.proofs.lemmas.Simd.{map-map}
use Rattle.std.proofs.lemmas.List.FromFn.{length-range_with_len}
use Rattle.std.specs.List.{range_with_len}
use Rattle.std.proofs.lemmas.Grind.{elements}
use Rattle.ffv1_plane.specs.Context.{size_of, flip_of}
use Rattle.ffv1_plane.specs.Residual.{chosen_of}
use Rattle.ffv1_plane.proofs.LaneValues.{by_values}
use Rattle.ffv1_line.specs.Beside.{beside, chosen_beside}
use Rattle.ffv1_line.specs.Internal.Parts.{kept_of}
use Rattle.ffv1_line.proofs.lemmas.encode.BlockLanes.{block_lanes}
use Rattle.ffv1_line.proofs.lemmas.cell.Narrow.{unsigned_below}
use Rattle.ffv1_line.proofs.encode.block.prepare_lanes.Goals as goal

pub returns : goal.returns
returns g c =
    let q = c.requires in
    let p = c.args.part.now in
    let two = p.two.now in
    let one = p.one.now in
    let cur = p.cur.now in
    let x = p.from + c.args.at in
    let places = range_with_len x 16 in
    let long = length-range_with_len x 16 in
    let loaded = c.around_lanes.ensures in
    let sizes = c.kept_lanes.ensures.sizes places (beside two one cur) long loaded.around in
    let residuals = c.kept_lanes.ensures.residuals places (beside two one cur) (slice_index cur)
    long loaded.around loaded.samples loaded.small in
    block_lanes p c.args.at _ _ _ _ q.part.bits q.contexts q.residuals
    c.is_a_bounded_set.ensures.below q.done
    (ap (map (λ (n : ℕ). n)) sizes ∙ map-map (λ (n : ℕ). n)
    (λ (k : ℕ). size_of p.set.now (beside two one cur k)) places)
    (by_values places _ _ (λ (k : ℕ). kept_of p.bits
    (chosen_beside p.set.now p.bits two one cur k)) residuals
    (λ k. ap (λ (v : ℤ). kept_of p.bits (chosen_of p.bits v
    (flip_of p.set.now (beside two one cur k)) (slice_index cur k)))
    (sym (unsigned_below p.bits q.part.bits (beside two one cur k)))))

pub overflow_cast-contexts : goal.overflow_cast-contexts
overflow_cast-contexts g c = grind (arith, elements)
