-- The early sums of 16 places of a block from `at` on, none of which is a border of the row, by the
-- set's lanes.
use Rattle.std.proofs.Common.{ℕ, zero, suc, List, ◌≡◌, refl, ap, ◌∙◌, sym, ◌+◌, ◌-◌, ◌<◌, ◌≤◌}
use Rattle.std.proofs.Common.{length, slice_index, arith, min, inl, inr}
use Rattle.std.proofs.lemmas.Bool.{cases_lt}
use Rattle.std.proofs.lemmas.Simd.{get_or-put_chunk_below}
use Rattle.std.proofs.lemmas.List.FromFn.{length-range_with_len}
use Rattle.std.specs.List.{range_with_len}
use Rattle.ffv1_plane.specs.Early.{left_above, right_above}
use Rattle.ffv1_plane.proofs.LaneValues.{loaded, stored}
use Rattle.ffv1_plane.proofs.early.sum_lanes.Goals as goal

left_is : (two one : List ℕ) (x j : ℕ) → 0 < x → slice_index one (x - 1 + j) ≡ left_above two one
    (x + j)
left_is two one zero j some = absurd (omega arith)
left_is two one (suc x) j some =
    let e : suc x - 1 + j ≡ x + j = omega arith in
    let f : suc x + j ≡ suc (x + j) = omega arith in
    rw (e, f) refl

right_is : (one : List ℕ) (x j : ℕ) → j < 16 → x + 17 ≤ length one → slice_index one (x + 1 + j) ≡
    right_above one (x + j)
right_is one x j below within =
    let e : min (x + j + 1) (length one - 1) ≡ x + 1 + j = omega (arith, below, within) in
    ap (slice_index one) (sym e)

pub returns : goal.returns
returns g c =
    let q = c.requires in
    let two = c.args.rows.now.two.now in
    let one = c.args.rows.now.one.now in
    let x = c.args.rows.now.from + c.args.at in
    let lanes = c.early_lanes.ensures (range_with_len x 16) (left_above two one) (slice_index one)
    (right_above one) (slice_index two) (length-range_with_len x 16)
    (loaded x (x - 1) 16 one (left_above two one) (omega (arith, q.within, q.inside))
    (λ j below. left_is two one x j q.inside))
    (loaded x x 16 one (slice_index one) (omega (arith, q.within)) (λ j below. refl))
    (loaded x (x + 1) 16 one (right_above one) (omega (arith, q.within))
    (λ j below. right_is one x j below q.within))
    (loaded x x 16 two (slice_index two) (omega (arith, q.within, q.wide)) (λ j below. refl))
    (λ k. c.are_words.ensures k) (λ k. c.are_words.ensures (min (k + 1) (length one - 1))) in
    record {
      each = λ i below. elim (cases_lt i c.args.at) [
        | inl less ↦ rw (get_or-put_chunk_below c.args.at c.args.sum.now c.early_lanes.result i 0
            less) (q.done.each i less)
        | inr more ↦
            let place : x + (i - c.args.at) ≡ c.args.rows.now.from + i = omega (arith, more) in
            let value = stored x c.args.at 16 c.args.sum.now c.early_lanes.result lanes.0 i lanes.1
            (omega (arith, q.room)) more below ∙ ap lanes.0 place in
            rw value (lanes.2 (c.args.rows.now.from + i))
      ];
    }
