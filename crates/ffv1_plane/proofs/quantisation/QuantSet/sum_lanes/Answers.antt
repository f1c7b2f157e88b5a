-- The sums of the look-ups of 16 places, each raised by the sum of the greatest entries, by the
-- set's lanes.
use Rattle.std.proofs.Common.{ℕ, ◌∙◌, sym, arith}
use Rattle.std.proofs.lemmas.Simd.{zip2_of_maps}
use Rattle.ffv1_plane.specs.Context.{low}
use Rattle.ffv1_plane.specs.Raised.{raised_entry}
use Rattle.ffv1_plane.proofs.LaneValues.{by_values}
use Rattle.ffv1_plane.proofs.LaneSums.{AreLaned, are_laned, sum_context, sum_most}
use Rattle.ffv1_plane.proofs.LaneSums.{sum_of_three, sum_of_five, plus, three_added, five_added}
use Rattle.ffv1_plane.proofs.quantisation.QuantSet.sum_lanes.Given.{Over}
use Rattle.ffv1_plane.proofs.quantisation.QuantSet.sum_lanes.Goals.{After-self}
use Rattle.ffv1_plane.proofs.quantisation.QuantSet.sum_lanes.Goals as goal

-- the set's tables and their lanes
tables : (g : Over) (c : After-self g) → AreLaned c.self.inside.first c.self.inside.second
    c.self.inside.third c.self.inside.fourth c.self.inside.fifth c.self.inside.half
    c.args.lanes.now
tables g c = are_laned _ _ _ _ _ _ _ _ c.self.view_is c.self.invariant c.requires.few
    c.requires.lanes

pub raised_lanes-requires : goal.raised_lanes-requires
raised_lanes-requires g c =
    let second = (tables g (goal.at.raised_lanes-requires g c).After-self).second in
    record { few = second.few; table = second.table }

pub raised_lanes-requires-2 : goal.raised_lanes-requires-2
raised_lanes-requires-2 g c =
    let third = (tables g (goal.at.raised_lanes-requires-2 g c).After-self).third in
    record { few = third.few; table = third.table }

pub raised_lanes-left-requires : goal.raised_lanes-left-requires
raised_lanes-left-requires g c =
    let first = (tables g (goal.at.raised_lanes-left-requires g c).After-self).first in
    record { few = first.few; table = first.table }

pub raised_lanes-requires-3 : goal.raised_lanes-requires-3
raised_lanes-requires-3 g c =
    let fourth = (tables g (goal.at.raised_lanes-requires-3 g c).After-self).fourth in
    record { few = fourth.few; table = fourth.table }

pub raised_lanes-requires-4 : goal.raised_lanes-requires-4
raised_lanes-requires-4 g c =
    let fifth = (tables g (goal.at.raised_lanes-requires-4 g c).After-self).fifth in
    record { few = fifth.few; table = fifth.table }

pub returns-then-three_tables-clause-sums : goal.returns-then-three_tables-clause-sums
returns-then-three_tables-clause-sums g c = rw (← c.self.view_is) (λ places a long is.
    let three = rw (← c.self.view_is) at c.requires.three_tables c.if-three_tables.true in
    let t = c.self.inside in
    let sum = λ (x : ℕ). sum_of_three t.first t.second t.third t.fourth t.fifth t.half (a x)
    c.self.invariant three c.raised_lanes-left.ensures.entries c.raised_lanes.ensures.entries
    c.raised_lanes-2.ensures.entries
    c.raised_lanes-left.ensures.most c.raised_lanes.ensures.most c.raised_lanes-2.ensures.most in
    let few = c.self.invariant.set.few in
    let count = c.self.invariant.contexts in
    by_values places _ _ _
    (zip2_of_maps plus _ _ places (c.raised_lanes-left.ensures.lanes places (λ x. (a x).l)
    (λ x. (a x).tl) long is.l is.tl (λ x. (is.samples x).tl))
    (zip2_of_maps plus _ _ places (c.raised_lanes.ensures.lanes places (λ x. (a x).tl)
    (λ x. (a x).t) long is.tl is.t (λ x. (is.samples x).t))
    (c.raised_lanes-2.ensures.lanes places (λ x. (a x).t) (λ x. (a x).tr) long is.t is.tr
    (λ x. (is.samples x).tr))))
    (λ x. three_added (raised_entry t.first (low (a x).l (a x).tl))
    (raised_entry t.second (low (a x).tl (a x).t)) (raised_entry t.third (low (a x).t (a x).tr))
    t.half (sum x).most (omega (arith, few, count)) ∙ sym (sum x).is))

pub returns-then-three_tables-clause-context : goal.returns-then-three_tables-clause-context
returns-then-three_tables-clause-context g c = rw (← c.self.view_is) (λ a.
    sum_context _ a c.self.invariant.set)

pub returns-then-three_tables-clause-most : goal.returns-then-three_tables-clause-most
returns-then-three_tables-clause-most g c = rw (← c.self.view_is) (λ a.
    sum_most _ a c.self.invariant.set)

pub returns-clause-sums : goal.returns-clause-sums
returns-clause-sums g c = rw (← c.self.view_is) (λ places a long is.
    let t = c.self.inside in
    let sum = λ (x : ℕ). sum_of_five t.first t.second t.third t.fourth t.fifth t.half (a x)
    c.self.invariant c.raised_lanes-left.ensures.entries c.raised_lanes.ensures.entries
    c.raised_lanes-2.ensures.entries
    c.raised_lanes-3.ensures.entries c.raised_lanes-4.ensures.entries
    c.raised_lanes-left.ensures.most c.raised_lanes.ensures.most c.raised_lanes-2.ensures.most
    c.raised_lanes-3.ensures.most c.raised_lanes-4.ensures.most in
    let few = c.self.invariant.set.few in
    let count = c.self.invariant.contexts in
    by_values places _ _ _
    (zip2_of_maps plus _ _ places
    (zip2_of_maps plus _ _ places (c.raised_lanes-left.ensures.lanes places (λ x. (a x).l)
    (λ x. (a x).tl) long is.l is.tl (λ x. (is.samples x).tl))
    (zip2_of_maps plus _ _ places (c.raised_lanes.ensures.lanes places (λ x. (a x).tl)
    (λ x. (a x).t) long is.tl is.t (λ x. (is.samples x).t))
    (c.raised_lanes-2.ensures.lanes places (λ x. (a x).t) (λ x. (a x).tr) long is.t is.tr
    (λ x. (is.samples x).tr))))
    (zip2_of_maps plus _ _ places (c.raised_lanes-3.ensures.lanes places (λ x. (a x).ll)
    (λ x. (a x).l) long is.ll is.l (λ x. (is.samples x).l))
    (c.raised_lanes-4.ensures.lanes places (λ x. (a x).tt) (λ x. (a x).t) long is.tt is.t
    (λ x. (is.samples x).t))))
    (λ x. five_added (raised_entry t.first (low (a x).l (a x).tl))
    (raised_entry t.second (low (a x).tl (a x).t)) (raised_entry t.third (low (a x).t (a x).tr))
    (raised_entry t.fourth (low (a x).ll (a x).l)) (raised_entry t.fifth (low (a x).tt (a x).t))
    t.half (sum x).most (omega (arith, few, count)) ∙ sym (sum x).is))

pub returns-clause-context : goal.returns-clause-context
returns-clause-context g c = rw (← c.self.view_is) (λ a.
    sum_context _ a c.self.invariant.set)

pub returns-clause-most : goal.returns-clause-most
returns-clause-most g c = rw (← c.self.view_is) (λ a.
    sum_most _ a c.self.invariant.set)

pub returns-then-three_tables-clause-few : goal.returns-then-three_tables-clause-few
returns-then-three_tables-clause-few g c = rw (← c.self.view_is) c.self.invariant.set.few

pub returns-clause-few : goal.returns-clause-few
returns-clause-few g c = rw (← c.self.view_is) c.self.invariant.set.few
