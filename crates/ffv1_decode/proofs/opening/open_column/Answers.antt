-- Opens the slice of a column.
use Rattle.std.proofs.Common.{rules, ◌≡◌, ℕ, ◌+◌, ◌-◌, ◌<◌, ◌≤◌, refl, ap, subst, sym, ◌∙◌, Some}
use Rattle.std.proofs.Common.{length, slice_index, replicate, ◌++◌, arith}
use Rattle.std.proofs.lemmas.Result.{err_from_is_err_and}
use Rattle.ffv1_decode.specs.Internal.Stands.{told_by, tally_after}
use Rattle.ffv1_frame.specs.Windows.{window}
use Rattle.ffv1_range.specs.Codes.{value}
use Rattle.ffv1_range.specs.History.{HasStates}
use Rattle.ffv1_slice.specs.Cutting.{span_of}
use Rattle.ffv1_slice.specs.Head.{key_steps, head_steps}
use Rattle.ffv1_frame.specs.Decoding.{AgreesWith}
use Rattle.ffv1_decode.proofs.lemmas.left_bits.BitsTied.{none_is_not}
use Rattle.ffv1_decode.proofs.lemmas.opening.Openings.{span_known, begins_before, ends_inside, opening_below}
use Rattle.ffv1_decode.proofs.lemmas.opening.Openings.{fresh_has, head_told, column_opened, column_differs}
use Rattle.ffv1_decode.proofs.lemmas.opening.Openings.{column_overread, column_stopped, column_bad, indexes_few}
use Rattle.ffv1_decode.proofs.opening.open_column.Given.{Over}
use Rattle.ffv1_decode.proofs.opening.open_column.Goals.{After-is_overread}
use Rattle.ffv1_decode.proofs.opening.open_column.Goals.{After-unwrap-begin}
use Rattle.ffv1_decode.proofs.opening.open_column.Goals as goal

-- the span that was found is that of the slice
known : (g : Over) (c : After-unwrap-begin g) →
    (c.unwrap-begin.result.0 ≡ slice_index c.args.spans.now.offsets c.args.slice)
    × (c.unwrap-begin.result.1 ≡ slice_index c.args.spans.now.offsets (c.args.slice + 1) -
    c.args.spans.now.foot)
known g c =
    let cut = c.args.spans.now in
    let next : c.args.slice + 1 < length cut.offsets =
    omega (arith, c.requires.slice, c.requires.cut.long) in
    let found : span_of cut c.args.slice ≡ Some c.unwrap-begin.result = search rules in
    span_known cut c.args.slice c.unwrap-begin.result next found

-- it ends in the payload
inside : (g : Over) (c : After-unwrap-begin g) → c.unwrap-begin.result.1 ≤ length
    c.args.frame.now.payload.now
inside g c =
    let known = known g c in
    ends_inside c.args.frame.now.checked.now c.args.frame.now.payload.now c.args.spans.now
    c.args.slice c.unwrap-begin.result.0 c.unwrap-begin.result.1 c.requires.cut known.0 known.1
    c.requires.slice

-- what the column shows of the decoder that was parked is what was decided of the head
told : (g : Over) (c : After-is_overread g) →
    ((c.unwrap-begin.result.0 ≡ slice_index c.args.spans.now.offsets c.args.slice) ×
    (c.unwrap-begin.result.1 ≡ slice_index c.args.spans.now.offsets (c.args.slice + 1) -
    c.args.spans.now.foot)) →
    told_by (Some c.park.result) ≡ tally_after c.args.frame.now.checked.now.table
    (key_steps c.args.slice ++ head_steps c.args.frame.now.checked.now.configuration
    c.args.slice c.in_ok-head.head)
told g c known =
    rw c.park.ensures (head_told c.args.frame.now.checked.now c.args.frame.now.payload.now
    c.args.spans.now c.args.slice c.unwrap-begin.result.0 c.unwrap-begin.result.1 c.requires.cut
    known.0 known.1 c.in-Ok.decoder c.read_head-read.new.decoder c.in-Ok.ensures.bytes
    c.counters_from_zero_show_all_steps.ensures c.in_ok-head.head c.in_ok-head.ensures.ok)

pub slice_bounds-new-end : goal.slice_bounds-new-end
slice_bounds-new-end g c = inside g (goal.at.slice_bounds-new-end g c).After-unwrap-begin

pub returns-in_default-clause-exact : goal.returns-in_default-clause-exact
returns-in_default-clause-exact g c =
    let a = c.args.frame.now.checked.now in
    let n = c.args.slice in
    let begin = c.unwrap-begin.result.0 in
    let end = c.unwrap-begin.result.1 in
    let cut = c.args.spans.now in
    let known = known g (goal.at.returns-in_default-clause-exact g c).After-unwrap-begin in
    let bytes = window begin (end - begin) c.args.frame.now.payload.now in
    let bad : 65280 ≤ value bytes 2 = c.in_default.ensures.refused.0 refl in
    column_bad a c.args.frame.now.payload.now cut n begin end c.requires.cut known.0 known.1
    c.args.column.now c.args.first.now c.requires.closed
    (λ codes. let less = c.good_start_codes_the_empty_list.ensures.only bytes codes in
    absurd (omega (arith, bad, less)))

pub is_overread-requires-clause-inside : goal.is_overread-requires-clause-inside
is_overread-requires-clause-inside g c = inside g
    (goal.at.is_overread-requires-clause-inside g c).After-unwrap-begin

pub returns-then-is_overread-clause-exact : goal.returns-then-is_overread-clause-exact
returns-then-is_overread-clause-exact g c =
    let a = c.args.frame.now.checked.now in
    let n = c.args.slice in
    let begin = c.unwrap-begin.result.0 in
    let end = c.unwrap-begin.result.1 in
    let cut = c.args.spans.now in
    let known = known g (goal.at.returns-then-is_overread-clause-exact g c).After-unwrap-begin in
    let old_is : c.in-Ok.decoder.bytes ≡ window begin (end - begin) c.args.frame.now.payload.now =
    c.in-Ok.ensures.bytes in
    let opening = key_steps n ++ head_steps a.configuration n c.in_ok-head.head in
    let told = told g (goal.at.returns-then-is_overread-clause-exact g c).After-is_overread known in
    let over = c.if-is_overread.ensures.yes refl opening told in
    rw c.park.ensures (column_overread a c.args.frame.now.payload.now cut n begin end c.requires.cut
    known.0 known.1 c.in-Ok.decoder c.read_head-read.new.decoder old_is
    c.counters_from_zero_show_all_steps.ensures _ c.in_ok-head.head c.args.first.now refl
    c.in_ok-head.ensures.ok over)

pub returns-then-agrees-clause-exact : goal.returns-then-agrees-clause-exact
returns-then-agrees-clause-exact g c =
    let a = c.args.frame.now.checked.now in
    let n = c.args.slice in
    let begin = c.unwrap-begin.result.0 in
    let end = c.unwrap-begin.result.1 in
    let cut = c.args.spans.now in
    let known = known g (goal.at.returns-then-agrees-clause-exact g c).After-unwrap-begin in
    let old_is : c.in-Ok.decoder.bytes ≡ window begin (end - begin) c.args.frame.now.payload.now =
    c.in-Ok.ensures.bytes in
    let below = opening_below c.decisions_of_two_parts_join.ensures.below
    c.symbols_stay_in_their_slots.ensures.unsigned c.symbols_stay_in_their_slots.ensures.shifted
    a.configuration n c.in_ok-head.head in
    let has : (slots : ℕ) → HasStates a.table (replicate slots 128) 33
    (key_steps n ++ head_steps a.configuration n c.in_ok-head.head) =
    λ slots. fresh_has c.array_states_follow_the_history.ensures.fresh
    c.array_states_follow_the_history.ensures.others a.table
    (key_steps n ++ head_steps a.configuration n c.in_ok-head.head) slots below in
    let said = c.said.ensures a.profile in
    let agreed = c.if-agrees.ensures.yes refl in
    let opening = key_steps n ++ head_steps a.configuration n c.in_ok-head.head in
    let told = told g (goal.at.returns-then-agrees-clause-exact g c).After-is_overread known in
    let within = c.if-is_overread.ensures.no refl opening told in
    rw c.park.ensures (column_opened a c.args.frame.now.payload.now cut n begin end c.requires.cut
    known.0 known.1 c.in-Ok.decoder c.read_head-read.new.decoder old_is
    c.in_ok-head.head.indexes c.in_ok-head.head c.args.first.now c.agrees.new.first refl
    c.in_ok-head.ensures.ok (subst (AgreesWith c.args.first.now) said agreed.0)
    (agreed.1 ∙ ap Some said) within has)

pub returns-then-agrees-clause-open : goal.returns-then-agrees-clause-open
returns-then-agrees-clause-open g c =
    let a = c.args.frame.now.checked.now in
    let n = c.args.slice in
    let begin = c.unwrap-begin.result.0 in
    let end = c.unwrap-begin.result.1 in
    let cut = c.args.spans.now in
    let known = known g (goal.at.returns-then-agrees-clause-open g c).After-unwrap-begin in
    let head = c.in_ok-head.ensures.head in
    record {
      parked = refl;
      rises = begins_before a c.args.frame.now.payload.now cut n begin end c.requires.cut known.0
          known.1 c.requires.slice;
      inside = inside g (goal.at.returns-then-agrees-clause-open g c).After-unwrap-begin;
      index = indexes_few a.configuration.extra_plane (length a.configuration.sets)
          c.in_ok-head.head.indexes (omega (arith, head.first)) head.first head.second head.third;
      left = λ n is. none_is_not n (sym is);
      run = omega arith;
    }

pub returns-clause-exact : goal.returns-clause-exact
returns-clause-exact g c =
    let a = c.args.frame.now.checked.now in
    let n = c.args.slice in
    let begin = c.unwrap-begin.result.0 in
    let end = c.unwrap-begin.result.1 in
    let cut = c.args.spans.now in
    let known = known g (goal.at.returns-clause-exact g c).After-unwrap-begin in
    let old_is : c.in-Ok.decoder.bytes ≡ window begin (end - begin) c.args.frame.now.payload.now =
    c.in-Ok.ensures.bytes in
    let said = c.said.ensures a.profile in
    let differs = c.if-agrees.ensures.no refl in
    let opening = key_steps n ++ head_steps a.configuration n c.in_ok-head.head in
    let told = told g (goal.at.returns-clause-exact g c).After-is_overread known in
    let within = c.if-is_overread.ensures.no refl opening told in
    rw c.park.ensures (column_differs a c.args.frame.now.payload.now cut n begin end c.requires.cut
    known.0 known.1 c.in-Ok.decoder c.read_head-read.new.decoder old_is
    c.counters_from_zero_show_all_steps.ensures _ c.in_ok-head.head c.args.first.now differs.0
    refl c.in_ok-head.ensures.ok differs.1 (λ same. differs.2 (said ∙ same)) within)

pub returns-in_err-head-clause-exact : goal.returns-in_err-head-clause-exact
returns-in_err-head-clause-exact g c =
    let a = c.args.frame.now.checked.now in
    let n = c.args.slice in
    let begin = c.unwrap-begin.result.0 in
    let end = c.unwrap-begin.result.1 in
    let cut = c.args.spans.now in
    let known = known g (goal.at.returns-in_err-head-clause-exact g c).After-unwrap-begin in
    let old_is : c.in-Ok.decoder.bytes ≡ window begin (end - begin) c.args.frame.now.payload.now =
    c.in-Ok.ensures.bytes in
    let stop = err_from_is_err_and c.from_residual.result c.from_residual.ensures.1 in
    rw (stop.1, stop.2) (rw c.park.ensures (column_stopped a c.args.frame.now.payload.now cut n
    begin end c.requires.cut known.0 known.1 c.in-Ok.decoder c.read_head-read.new.decoder old_is
    c.counters_from_zero_show_all_steps.ensures _ c.args.first.now c.in_err-head.field-0.0 refl
    c.in_err-head.ensures.err))

pub is_overread-requires-clause-rises : goal.is_overread-requires-clause-rises
is_overread-requires-clause-rises g c =
    let known = known g (goal.at.is_overread-requires-clause-rises g c).After-unwrap-begin in
    begins_before c.args.frame.now.checked.now c.args.frame.now.payload.now c.args.spans.now
    c.args.slice c.unwrap-begin.result.0 c.unwrap-begin.result.1 c.requires.cut known.0 known.1
    c.requires.slice
