-- The early parts of the sums of 16 places, as of `early_sum`, by the set's lanes.
use Rattle.std.proofs.Common.{ℕ, ◌∙◌, ◌+◌, ◌-◌, arith}
use Rattle.std.proofs.lemmas.Simd.{zip2_of_maps, splat_is_map}
use Rattle.ffv1_plane.specs.Context.{low}
use Rattle.ffv1_plane.specs.Raised.{raised_entry}
use Rattle.ffv1_plane.proofs.LaneValues.{by_values}
use Rattle.ffv1_plane.proofs.LaneSums.{AreLaned, are_laned, plus, low_below}
use Rattle.ffv1_plane.proofs.LaneSums.{early_three_added, early_added}
use Rattle.ffv1_plane.proofs.EarlySums.{early_is, early_of_three}
use Rattle.ffv1_plane.proofs.quantisation.QuantSet.early_lanes.Given.{Over}
use Rattle.ffv1_plane.proofs.quantisation.QuantSet.early_lanes.Goals.{After-self}
use Rattle.ffv1_plane.proofs.quantisation.QuantSet.early_lanes.Goals as goal

-- the set's tables and their lanes
tables : (g : Over) (c : After-self g) → AreLaned c.self.inside.first c.self.inside.second
    c.self.inside.third c.self.inside.fourth c.self.inside.fifth c.self.inside.half
    c.args.lanes.now
tables g c = are_laned _ _ _ _ _ _ _ _ c.self.view_is c.self.invariant c.requires.few
    c.requires.lanes

pub raised_lanes-requires : goal.raised_lanes-requires
raised_lanes-requires g c =
    let second = (tables g (goal.at.raised_lanes-requires g c).After-self).second in
    record { few = second.few; table = second.table }

pub raised_lanes-requires-2 : goal.raised_lanes-requires-2
raised_lanes-requires-2 g c =
    let third = (tables g (goal.at.raised_lanes-requires-2 g c).After-self).third in
    record { few = third.few; table = third.table }

pub raised_lanes-requires-3 : goal.raised_lanes-requires-3
raised_lanes-requires-3 g c =
    let fifth = (tables g (goal.at.raised_lanes-requires-3 g c).After-self).fifth in
    record { few = fifth.few; table = fifth.table }

pub returns-then-three_tables : goal.returns-then-three_tables
returns-then-three_tables g c = rw (← c.self.view_is) (λ places f i h k long tl t tr tt fits fits'.
    let three = rw (← c.self.view_is) at c.requires.three_tables c.if-three_tables.true in
    let set = c.self.inside in
    let r2 = λ (x : ℕ). raised_entry set.second (low (f x) (i x)) in
    let r3 = λ (x : ℕ). raised_entry set.third (low (i x) (h x)) in
    let few = c.self.invariant.set.few in
    let count = c.self.invariant.contexts in
    let raise = (tables g (goal.at.returns-then-three_tables g c).After-self).raise in
    let halves = c.self.invariant.halves in (
      λ x. r2 x + r3 x + (32768 - set.half),
      by_values places _ _ _
          (zip2_of_maps plus _ _ places (zip2_of_maps plus _ _ places
          (c.raised_lanes.ensures.lanes places f i long tl t fits)
          (c.raised_lanes-2.ensures.lanes places i h long t tr fits'))
          (raise ∙ splat_is_map places 16 (32768 - set.half) long))
          (λ x. early_three_added (r2 x) (r3 x) _ _ _ _ _ set.half
          (c.raised_lanes.ensures.most (low (f x) (i x)) (low_below (f x) (i x)))
          (c.raised_lanes-2.ensures.most (low (i x) (h x)) (low_below (i x) (h x))) halves
          (omega (arith, few, count))),
      λ x. early_of_three set.first set.second set.third set.fourth set.fifth set.half
          c.self.invariant (f x) (i x) (h x) (k x) (r2 x) (r3 x) three
          (c.raised_lanes.ensures.entries (low (f x) (i x)) (low_below (f x) (i x)))
          (c.raised_lanes-2.ensures.entries (low (i x) (h x)) (low_below (i x) (h x))),
    ))

pub returns : goal.returns
returns g c = rw (← c.self.view_is) (λ places f i h k long tl t tr tt fits fits'.
    let set = c.self.inside in
    let r2 = λ (x : ℕ). raised_entry set.second (low (f x) (i x)) in
    let r3 = λ (x : ℕ). raised_entry set.third (low (i x) (h x)) in
    let r5 = λ (x : ℕ). raised_entry set.fifth (low (k x) (i x)) in
    let few = c.self.invariant.set.few in
    let count = c.self.invariant.contexts in
    let raise = (tables g (goal.at.returns g c).After-self).raise in
    let halves = c.self.invariant.halves in (
      λ x. r2 x + r3 x + (32768 - set.half) + r5 x,
      by_values places _ _ _
          (zip2_of_maps plus _ _ places (zip2_of_maps plus _ _ places
          (zip2_of_maps plus _ _ places (c.raised_lanes.ensures.lanes places f i long tl t fits)
          (c.raised_lanes-2.ensures.lanes places i h long t tr fits'))
          (raise ∙ splat_is_map places 16 (32768 - set.half) long))
          (c.raised_lanes-3.ensures.lanes places k i long tt t fits))
          (λ x. early_added (r2 x) (r3 x) (r5 x) _ _ _ _ _ set.half
          (c.raised_lanes.ensures.most (low (f x) (i x)) (low_below (f x) (i x)))
          (c.raised_lanes-2.ensures.most (low (i x) (h x)) (low_below (i x) (h x)))
          (c.raised_lanes-3.ensures.most (low (k x) (i x)) (low_below (k x) (i x))) halves
          (omega (arith, few, count))),
      λ x. early_is set.first set.second set.third set.fourth set.fifth set.half c.self.invariant
          (f x) (i x) (h x) (k x) (r2 x) (r3 x) (r5 x)
          (c.raised_lanes.ensures.entries (low (f x) (i x)) (low_below (f x) (i x)))
          (c.raised_lanes-2.ensures.entries (low (i x) (h x)) (low_below (i x) (h x)))
          (c.raised_lanes-3.ensures.entries (low (k x) (i x)) (low_below (k x) (i x))),
    ))
