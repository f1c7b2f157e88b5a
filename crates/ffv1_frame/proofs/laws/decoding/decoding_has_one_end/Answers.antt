-- Decoding has one end at most: it comes to its end in one state, or is refused at one first fault;
-- and after each beginning of its order it stands in one state.
use Rattle.std.proofs.Common.{◌≡◌, ℕ, ◌+◌, ◌*◌, ◌<◌, ◌≤◌, ◌^◌, List, [], arith, sym, subst, ◌∙◌}
use Rattle.std.proofs.Math.Nat.{mul-le-mul_left}
use Rattle.ffv1_range.specs.Codes.{AreBytes, IsState}
use Rattle.ffv1_range.specs.History.{decisions_after}
use Rattle.ffv1_frame.proofs.lemmas.laws.rice.BitLines.{BitLaws}
use Rattle.ffv1_frame.proofs.lemmas.Coders.{rice_bits_are}
use Rattle.ffv1_record.specs.Accepted.{Accepted, IsAccepted}
use Rattle.ffv1_slice.specs.Grid.{across, division_of, reduced, whole_of, Lies}
use Rattle.ffv1_frame.specs.Order.{events_of}
use Rattle.ffv1_frame.specs.Decoding.{StepsBy, FaultsWith, at_first, slice_number}
use Rattle.ffv1_frame.proofs.lemmas.laws.decoding.Machines.{Each, OneEach, each_left, runs_same, runs_or_stops}
use Rattle.ffv1_frame.proofs.lemmas.laws.decoding.Machines.{stops_same}
use Rattle.ffv1_frame.proofs.lemmas.laws.decoding.OneLine.{RowLaws}
use Rattle.ffv1_frame.proofs.lemmas.laws.decoding.OneEvent.{BytesLaws, IsEvent, one_each}
use Rattle.ffv1_frame.proofs.lemmas.laws.decoding.EventsOf.{events_are, is_rct_is}
use Rattle.ffv1_line.specs.Coding.{coding_by}
use Rattle.ffv1_frame.proofs.laws.decoding.decoding_has_one_end.Goals as goal

few_slices : (r k rows columns : ℕ) → r < rows → k < columns → rows ≤ 32 → columns ≤ 32 → r *
    columns + k < 2 ^ 31
few_slices r k rows columns r_inside k_inside few_rows few_columns =
    let below = mul-le-mul_left {m = columns} {n = 32} r few_columns in
    omega (arith, below)

same_number : (k j m : ℕ) → k ≡ m → j ≡ m → k ≡ j
same_number k j m e f = e ∙ sym f

row_laws : (c : goal.After-parts_follow_one_another) (a : Accepted) (coded : ℕ → List ℕ) →
    IsAccepted a.configuration a.table → ((n : ℕ) → AreBytes (coded n)) → (n : ℕ) → RowLaws
    (coded n) a.table
row_laws c a coded is are n = record {
  top = c.reading_its_rows_reads_the_cell.ensures.top;
  rolls = c.reading_its_rows_reads_the_cell.ensures.rolls;
  one = λ base past set bits d e y z two one ps qs. c.bytes_code_one_row.ensures.one (coded n)
      (coding_by a.table set bits) base past d e y z two one ps qs (are n) is.closed;
  whole_or_refused = λ base past set bits d e y z two one ps qs.
      c.bytes_code_one_row.ensures.whole_or_refused (coded n) (coding_by a.table set bits) base past
      d e y z two one ps qs (are n) is.closed;
  one_refusal = λ base past set bits d e y z two one ps qs. c.bytes_code_one_row.ensures.one_refusal
      (coded n) (coding_by a.table set bits) base past d e y z two one ps qs (are n) is.closed;
}

sealed_state : IsState 129
sealed_state = record { least = omega arith; most = omega arith }

bit_laws : (c : goal.After-parts_follow_one_another) (a : Accepted) (coded : ℕ → List ℕ) →
    IsAccepted a.configuration a.table → ((n : ℕ) → AreBytes (coded n)) → (n : ℕ) → BitLaws
    a (coded n)
bit_laws c a coded is are n = record {
  depth = rice_bits_are a.configuration
      (c.accepted_configuration_has_sound_parts.ensures.rice a.configuration a.table is);
  seal = λ past b d. c.bytes_code_one_bit_next.ensures (coded n) (decisions_after a.table [] past) []
      [] 129 b d (are n) sealed_state tt tt;
  one = c.bits_begin_with_one_row_of_samples.ensures;
  coded = c.a_row_is_refused_in_one_way.ensures.coded;
  once = c.a_row_is_refused_in_one_way.ensures.once;
}

one_column : (x k j : ℕ) (c : goal.After-parts_follow_one_another) (a : Accepted) → IsAccepted
    a.configuration a.table → x < a.configuration.width →
    Lies (across (division_of a.configuration) 0) x k → Lies
    (across (division_of a.configuration) 0) x j → k ≡ j
unfolding reduced
one_column x k j c a is inside f g =
    let side = across (division_of a.configuration) 0 in
    let divided = c.cells_tile_their_plane.ensures.across (division_of a.configuration) 0
    (c.accepted_pictures_are_divided.ensures a.configuration a.table is) in
    let there : x < whole_of side = omega (arith, inside) in
    let one = c.parts_follow_one_another.ensures.one side x divided there in
    one.2 k f ∙ sym (one.2 j g)

bytes_laws : (c : goal.After-parts_follow_one_another) (a : Accepted) (coded : ℕ → List ℕ) →
    IsAccepted a.configuration a.table → ((n : ℕ) → AreBytes (coded n)) → BytesLaws a coded
bytes_laws c a coded is are = record {
  rows = row_laws c a coded is are;
  bits = bit_laws c a coded is are;
  heads = λ r k r_inside k_inside.
      let n = slice_number a.configuration r k in
      let columns = c.accepted_configuration_is_in_range.ensures.columns a.configuration a.table
      is in
      let rows = c.accepted_configuration_is_in_range.ensures.rows a.configuration a.table is in
      let sets = c.accepted_configuration_is_in_range.ensures.sets a.configuration a.table is in
      let few = few_slices r k a.configuration.rows a.configuration.columns r_inside k_inside rows.1
      columns.1 in
      record {
        named = λ past steps. c.each_decision_has_a_state.ensures.named a.table past steps
            is.closed;
        beginnings = λ xs ys. c.bytes_code_each_beginning.ensures (coded n) xs ys (are n);
        one_bit = λ past xs ys state b d. c.bytes_code_one_bit_next.ensures (coded n) past xs ys
            state b d (are n);
        head = λ g h. c.bytes_code_one_head.ensures.head (coded n) a.table a.profile a.configuration
            n g h (are n) is.closed few sets.1;
        apart = λ h f steps. c.bytes_code_one_head.ensures.apart (coded n) a.table a.profile
            a.configuration n h f steps (are n) is.closed few sets.1;
        refusal = λ f g xs ys. c.bytes_code_one_head.ensures.refusal (coded n) a.table a.profile
            a.configuration n f g xs ys (are n) is.closed;
      };
  wide = λ p k inside.
      c.parts_follow_one_another.ensures.some (across (division_of a.configuration) p) k
      (c.cells_tile_their_plane.ensures.across (division_of a.configuration) p
      (c.accepted_pictures_are_divided.ensures a.configuration a.table is)) inside;
  one_column = λ x k j. one_column x k j c a is;
}

all_events : (c : goal.After-parts_follow_one_another) (a : Accepted) → IsAccepted a.configuration
    a.table → Each (IsEvent a.configuration) (events_of a.configuration)
all_events c a is = events_are a.configuration
    (λ rct. (c.accepted_configuration_has_sound_parts.ensures.rct a.configuration a.table is
    (is_rct_is a.configuration.colour rct)).0)

each_event : (c : goal.After-parts_follow_one_another) (a : Accepted) (coded : ℕ → List ℕ) →
    IsAccepted a.configuration a.table → ((n : ℕ) → AreBytes (coded n)) → OneEach
    (StepsBy a coded) (FaultsWith a coded) (IsEvent a.configuration)
each_event c a coded is are = one_each a coded (bytes_laws c a coded is are)

pub returns-clause-end : goal.returns-clause-end
returns-clause-end c = λ a coded s t is are f g.
    runs_same (StepsBy a coded) (FaultsWith a coded) (IsEvent a.configuration)
    (each_event c a coded is are)
    (at_first a.configuration) s t (events_of a.configuration) (all_events c a is) f g

pub returns-clause-apart : goal.returns-clause-apart
returns-clause-apart c = λ a coded s t f is are g h.
    runs_or_stops (StepsBy a coded) (FaultsWith a coded) (IsEvent a.configuration)
    (each_event c a coded is are)
    (at_first a.configuration) s t f (events_of a.configuration) (all_events c a is) g h

pub returns-clause-fault : goal.returns-clause-fault
returns-clause-fault c = λ a coded s t f g is are h j.
    stops_same (StepsBy a coded) (FaultsWith a coded) (IsEvent a.configuration)
    (each_event c a coded is are)
    (at_first a.configuration) s t f g (events_of a.configuration) (all_events c a is) h j

pub returns-clause-beginning : goal.returns-clause-beginning
returns-clause-beginning c = λ a coded before after s t is are parts f g.
    let all = each_left (IsEvent a.configuration) before after
    (subst (Each (IsEvent a.configuration)) parts (all_events c a is)) in
    runs_same (StepsBy a coded) (FaultsWith a coded) (IsEvent a.configuration)
    (each_event c a coded is are)
    (at_first a.configuration) s t before all f g
