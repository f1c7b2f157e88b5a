-- At Wide no slice begins another.
use Rattle.std.proofs.Common.{ℕ, ◌*◌, ◌<◌, ◌≤◌, ◌^◌, ◌++◌, List, [], arith, subst}
use Rattle.std.proofs.Math.Nat.{mul-le-mul_left}
use Rattle.ffv1_range.specs.Codes.{Codes, AreBytes}
use Rattle.ffv1_range.specs.History.{decisions_after}
use Rattle.ffv1_record.specs.Accepted.{Accepted, IsAccepted}
use Rattle.ffv1_frame.proofs.lemmas.laws.decoding.OnlyRead.{OnlyLaws}
use Rattle.ffv1_frame.proofs.lemmas.laws.decoding.OneEnding.{nothing_follows}
use Rattle.ffv1_line.specs.Coding.{coding_by}
use Rattle.ffv1_frame.proofs.laws.decoding.no_slice_begins_another.Goals as goal

few_slices : (n columns rows : ℕ) → n < columns * rows → columns ≤ 32 → rows ≤ 32 → n < 2 ^ 31
few_slices n columns rows inside few_columns few_rows =
    let below = mul-le-mul_left {m = columns} {n = 32} rows few_columns in
    omega (arith, below, inside, few_rows)

laws : (c : goal.After-planes_are_divided_part_by_part) (a : Accepted) (bytes : List ℕ) → IsAccepted
    a.configuration a.table → AreBytes bytes → OnlyLaws a bytes
laws c a bytes is are = record {
  top = c.rows_above_roll_down_the_cell.ensures.top;
  next = c.rows_above_roll_down_the_cell.ensures.next;
  one = λ base past set bits d e y z two one ps qs. c.bytes_code_one_row.ensures.one bytes
      (coding_by a.table set bits) base past d e y z two one ps qs are is.closed;
  steps = c.agreeing_cells_code_rows_alike.ensures.steps;
  front = λ xs ys codes.
      c.bytes_code_each_beginning.ensures bytes (decisions_after a.table [] xs)
      (decisions_after a.table xs ys) are (c.each_decision_has_a_state.ensures.named a.table xs
      ys is.closed)
      (subst (Codes bytes) (c.decisions_of_two_parts_join.ensures.history a.table [] xs ys) codes);
}

pub returns : goal.returns
returns c = λ a xs ys planes others info said n is range wide are inside this that.
    let conf = a.configuration in
    let columns = c.accepted_configuration_is_in_range.ensures.columns conf a.table is in
    let rows = c.accepted_configuration_is_in_range.ensures.rows conf a.table is in
    let sets = c.accepted_configuration_is_in_range.ensures.sets conf a.table is in
    let few = few_slices n conf.columns conf.rows inside columns.1 rows.1 in
    nothing_follows a n inside xs ys (laws c a (xs ++ ys) is are)
    (c.planes_are_divided_part_by_part.ensures conf a.table is)
    (λ g h. c.bytes_code_one_head.ensures.head (xs ++ ys) a.table a.profile conf n g h are is.closed
    few sets.1)
    (λ steps. c.ended_bytes_code_their_list.ensures.begins xs ys (decisions_after a.table [] steps)
    are (c.each_decision_has_a_state.ensures.named a.table [] steps is.closed))
    range wide planes others info said this that
