-- `raised_lanes`: the same of 16 places, in a table of at most eleven levels, by its lanes.
use Rattle.std.proofs.Common.{ℕ, ◌≡◌, refl, ap, ◌∙◌, ◌+◌, ◌-◌, ◌*◌, ◌%◌, map, min, length, arith}
use Rattle.std.proofs.lemmas.Simd.{splat_is_map, zip2_of_maps, map-map}
use Rattle.ffv1_plane.specs.Context.{low}
use Rattle.ffv1_plane.specs.Raised.{raised_entry, last_place, table_of}
use Rattle.ffv1_plane.proofs.Levels.{filled_from}
use Rattle.ffv1_plane.proofs.LastPlaces.{passed_by, passed_le, added, lane_is, raised_is}
use Rattle.ffv1_plane.proofs.LastPlaces.{raised_most}
use Rattle.ffv1_plane.proofs.LaneValues.{by_values}
use Rattle.ffv1_plane.proofs.table.Table.raised_lanes.Goals as goal

abbrev plus : ℕ → ℕ → ℕ
plus a b = (a + b) % 256

pub returns-clause-lanes : goal.returns-clause-lanes
returns-clause-lanes g c = rw (← c.self.view_is) (λ places f h long a b fits.
    let t = table_of c.self.inside.runs.items c.self.inside.scale in
    let few = rw (← c.self.view_is) at c.requires.few in
    let is = c.self.invariant.0 in
    let table = rw (← c.self.view_is) at c.requires.table in
    let last = table.steps in
    let filled = filled_from t.runs is.filled in
    let k = λ (x : ℕ). low (f x) (h x) in
    let size = λ (x : ℕ). min (k x) (256 - k x) in
    let at = λ (j : ℕ) (x : ℕ). min (size x - last_place t.runs j) 1 in
    let level = λ (x : ℕ). plus (plus (plus (plus (at 0 x) (at 1 x)) (at 2 x)) (at 3 x)) (at 4 x) in
    let lows = c.low_lanes-differences.ensures places f h long a b fits in
    let sizes = c.size_lanes-sizes.ensures places k long lows (λ x. omega arith) in
    let levels = zip2_of_maps plus _ (at 4) places
    (zip2_of_maps plus _ (at 3) places (zip2_of_maps plus _ (at 2) places
    (zip2_of_maps plus (at 0) (at 1) places
    (c.over_lanes.ensures places size _ long sizes last.first)
    (c.over_lanes-2.ensures places size _ long sizes last.second))
    (c.over_lanes-3.ensures places size _ long sizes last.third))
    (c.over_lanes-4.ensures places size _ long sizes last.fourth))
    (c.over_lanes-5.ensures places size _ long sizes last.fifth) in
    let level_is : (x : ℕ) → level x ≡ passed_by t.runs (size x) = λ x.
    added (at 0 x) (at 1 x) (at 2 x) (at 3 x) (at 4 x) _ _ _ _ _ refl refl refl refl refl
    in
    let lifted = c.lift_lanes.ensures places k level (length t.runs - 1) long lows levels last.most
    (omega arith) (λ x. let le = passed_le t.runs (size x) filled few (omega arith) in
    rw (level_is x) (omega (arith, le))) in
    by_values places _ _ (λ x. raised_entry t (k x))
    (zip2_of_maps (λ (a b : ℕ). (a * b) % 65536) _ (λ (x : ℕ). t.scale) places
    (ap (map (λ (x : ℕ). x)) lifted ∙ map-map _ _ places)
    (table.scale ∙ splat_is_map places 16 t.scale long))
    (λ x. lane_is t _ (k x) (level x) _ is few (omega arith) (level_is x) (omega arith)))

pub returns-clause-entries : goal.returns-clause-entries
returns-clause-entries g c = rw (← c.self.view_is)
    (λ k below. raised_is (table_of c.self.inside.runs.items c.self.inside.scale) _ k
    c.self.invariant.0 below)

pub returns-clause-most : goal.returns-clause-most
returns-clause-most g c = rw (← c.self.view_is)
    (λ k below. raised_most (table_of c.self.inside.runs.items c.self.inside.scale) _ k
    c.self.invariant.0 below)
