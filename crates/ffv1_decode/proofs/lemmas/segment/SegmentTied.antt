-- One segment more is read: what ties columns, states and lines to the state.
use Rattle.std.proofs.Common.{◌≡◌, ◌≢◌, refl, ℕ, suc, ◌+◌, ◌-◌, ◌*◌, ◌^◌, ◌<◌, ◌≤◌, ◌⊎◌, inl, inr, List, [], ◌∷◌, ◌++◌, length, get_or, slice_index, slice_set, ap, sym, subst, ◌∙◌, arith, length-set, append-nil, true, false, ℤ, get_or-set_same, get_or-set_other}
use Rattle.std.proofs.lemmas.Bool.{cases_eq, cases_lt}
use Rattle.std.proofs.lemmas.List.{get_or_append_left, get_or-append-add, get_or_past}
use Rattle.ffv1_line.specs.Cell.{Rolls}
use Rattle.ffv1_record.specs.Configuration.{Configuration}
use Rattle.ffv1_record.specs.Accepted.{Accepted, is_rice}
use Rattle.ffv1_range.specs.History.{HasStates}
use Rattle.ffv1_slice.specs.Grid.{division_of, across, shared_of}
use Rattle.ffv1_decode.specs.declared.column.Column.{Column}
use Rattle.ffv1_frame.specs.declared.fault.CodecFault.{CodecFault}
use Rattle.ffv1_frame.specs.declared.fault.CodecFault.TheVariants as fault
use Rattle.ffv1_frame.specs.declared.fault.FrameFault.{FrameFault}
use Rattle.ffv1_frame.specs.Picture.{plane, plane_count}
use Rattle.ffv1_frame.specs.SliceList.{class_of, base_of, bits_of, set_at, set_in}
use Rattle.ffv1_decode.specs.Internal.Places.{AreParts}
use Rattle.ffv1_frame.specs.Order.{IsLastLine}
use Rattle.ffv1_frame.specs.Order.Event.{Read}
use Rattle.ffv1_frame.specs.Overread.{IsWithin, IsOverread}
use Rattle.ffv1_frame.specs.Ending.{SliceEnds, SliceGoesOn}
use Rattle.ffv1_frame.specs.RiceLines.{ByCoder}
use Rattle.ffv1_frame.proofs.lemmas.Coders.{by_range, by_rice}
use Rattle.ffv1_frame.specs.Decoding.{State, Slice, StepsBy, FaultsWith, ReadsLine, slice_at, slice_number, put_slice, after_line, after_steps, steps_of_stop, fault_in, left_of, width_in, top_of, unread, left_sample, Agrees, SaidBefore}
use Rattle.ffv1_decode.specs.Internal.LeftBits.{KeepsBits, BitsLine, BitsStop}
use Rattle.ffv1_decode.specs.Internal.Stands.{IsParked, Stands, SegmentRead, SegmentRefused, told_by, tally_after}
use Rattle.ffv1_frame.specs.Windows.{window}
use Rattle.ffv1_decode.specs.Internal.Tied.{TiedColumn, TiedColumns, TiedLine, AreTold, SegmentMade, Stopped, SameOthers, slots_in, column_at, bytes_in, no_column, part_of, overread_in, unended_in, overlap_in}
use Rattle.ffv1_decode.specs.Internal.Tied.{row_slices, rolling_lines}
use Rattle.ffv1_frame.proofs.lemmas.WrittenParts.{put, put_window, put_other, put_agrees}
use Rattle.ffv1_frame.proofs.lemmas.Sizes.{part_apart}
use Rattle.ffv1_decode.proofs.lemmas.parts.PartPlaces.{before, inside}
use Rattle.ffv1_decode.proofs.lemmas.shared.SharedColumns.{left_stands}
use Rattle.ffv1_decode.proofs.lemmas.segment.SegmentReads.{Telling, parked_tells}
use Rattle.ffv1_line.specs.Coding.{coding_by}
use Rattle.ffv1_frame.proofs.lemmas.picture.ByNumber.{plane_now, plane_other}

fits_part : (k many slots n : ℕ) → k < many → n ≡ many * slots → k * slots + slots ≤ n
fits_part k many slots n inside is = let all = part_apart k many slots inside in omega (arith, all, is)

-- the law of rolling rows
abbrev pub Rolling : Type 0
Rolling = (width n : ℕ) (samples two one cur : List ℕ) → length cur ≡ width → Rolls width samples two one n → Rolls width (samples ++ cur) one cur (n + 1)

pub slice_now : (s : State) (k : ℕ) (q : Slice) → k < length s.columns → slice_at (put_slice s k q) k ≡ q
slice_now s k q h = get_or-set_same s.columns k q unread h

pub slice_other : (s : State) (k j : ℕ) (q : Slice) → j ≢ k → slice_at (put_slice s k q) j ≡ slice_at s j
slice_other s k j q other = get_or-set_other s.columns k j q unread other

-- samples below a bound, and after them a row of samples below it
pub small_both : (bound : ℕ) (xs ys : List ℕ) → 0 < bound → ((i : ℕ) → slice_index xs i < bound) → ((i : ℕ) → i < length ys → slice_index ys i < bound) → (i : ℕ) → slice_index (xs ++ ys) i < bound
small_both bound xs ys some first second i = elim (cases_lt i (length xs)) [
  | inl less ↦ subst (λ z. z < bound) (sym (get_or_append_left xs ys 0 i less)) (first i)
  | inr over ↦
      let at : i ≡ length xs + (i - length xs) = omega (arith, over) in
      let behind : slice_index (xs ++ ys) i ≡ slice_index ys (i - length xs) = ap (λ n. get_or (xs ++ ys) n 0) at ∙ get_or-append-add xs ys (i - length xs) 0 in
      subst (λ z. z < bound) (sym behind) (elim (cases_lt (i - length xs) (length ys)) [
        | inl less ↦ second (i - length xs) less
        | inr past ↦ subst (λ z. z < bound) (sym (get_or_past ys (i - length xs) 0 past)) some
      ])
]

module _ (a : Accepted) (coded : ℕ → List ℕ) (r next : ℕ) (payload : List ℕ) (columns : List Column) (states : List ℕ) (s : State)
    (tied : TiedColumns a coded r next payload (row_slices columns states) s) where
  pub tied_told : Telling → length columns ≡ a.configuration.columns → AreTold a.table columns s
  tied_told telling long = record {
    long = tied.known ∙ sym long;
    each = λ k h. let t = tied.each k (omega (arith, h, long)) in parked_tells telling _ a.table (column_at columns k).parked (slice_at s k).past t.stands;
  }

  module _ (p index y k : ℕ) (two one cur row : List ℕ) (q : Column) (inside_k : k < a.configuration.columns) (long : length columns ≡ a.configuration.columns)
      (same : q ≡ record (column_at columns k) { parked = q.parked; bits = q.bits; index = q.index }) where
    abbrev c : Configuration
    c = a.configuration

    abbrev n : ℕ
    n = slice_number a.configuration r k

    abbrev offset : ℕ
    offset = index * a.configuration.width

    abbrev width : ℕ
    width = width_in a.configuration p k

    abbrev left : ℕ
    left = offset + left_of a.configuration p k

    abbrev slots : ℕ
    slots = slots_in a.configuration

    abbrev old : Slice
    old = slice_at s k

    abbrev samples : List ℕ
    samples = plane old.cells p

    inside_s : k < length s.columns
    inside_s = omega (arith, inside_k, tied.known)

    inside_q : k < length columns
    inside_q = omega (arith, inside_k, long)

    column_now : column_at (slice_set columns k q) k ≡ q
    column_now = get_or-set_same columns k q no_column inside_q

    column_other : (j : ℕ) → j ≢ k → column_at (slice_set columns k q) j ≡ column_at columns j
    column_other j other = get_or-set_other columns k j q no_column other

    abbrev set_here : List ℕ → List (List ℕ)
    set_here indexes = set_at a.configuration.sets (slice_index indexes (class_of p))

    pub stands_here : is_rice a.configuration.coder ≡ false → Stands (bytes_in payload (column_at columns k)) a.table 33 (column_at columns k).parked (window (k * slots) slots states) old.past
    stands_here is =
        let t = tied.each k inside_k in
        let stands : Stands (coded n) a.table 33 (column_at columns k).parked (window (k * slots) slots states) old.past = record { decoder = t.stands; has = t.kept.range is } in
        subst (λ z. Stands z a.table 33 (column_at columns k).parked (window (k * slots) slots states) old.past) (sym t.bytes_are) stands

    set_same : set_here (column_at columns k).indexes ≡ set_in a.configuration old.head p
    set_same = ap set_here (tied.each k inside_k).indexes

    module _ (rolls : Rolls width samples (window left width two) (window left width one) y) where
      module _ (new : List ℕ) (small : (x : ℕ) → x < length row → slice_index row x < 2 ^ bits_of a.configuration) (row_long : length row ≡ width) (before_next : p < next) (inside_p : p < plane_count a.configuration)
          (states_long : length states ≡ a.configuration.columns * slots) (new_long : length new ≡ slots) where
        module _ (residuals : List ℤ) (reads : ReadsLine a coded n p width y old residuals row) (parked_now : IsParked (coded n) a.table q.parked (after_line a coded old p width y residuals row).past)
            (kept_now : ByCoder (is_rice a.configuration.coder) (HasStates a.table new 33 (after_line a coded old p width y residuals row).past) (KeepsBits a (coded n) q new (after_line a coded old p width y residuals row))) where
          abbrev pub slice_new : Slice
          slice_new = after_line a coded old p width y residuals row

          abbrev pub state_new : State
          state_new = put_slice s k slice_new

          pub step : IsWithin a (coded n) (slice_at state_new k).past → (IsLastLine a.configuration r p y → SliceEnds a (coded n) (slice_at state_new k).past (slice_at state_new k).bits) →
              Agrees a.configuration s r k p y width row → StepsBy a coded s (Read r k p y) state_new
          step within ending agrees = (
            residuals,
            row,
            reads,
            refl,
            subst (λ (z : Slice). IsWithin a (coded n) z.past) (slice_now s k slice_new inside_s) within,
            λ is. subst (λ (z : Slice). SliceEnds a (coded n) z.past z.bits) (slice_now s k slice_new inside_s) (ending is),
            agrees,
          )

          pub fault_is : IsOverread a (coded n) (slice_at state_new k).past → FaultsWith a coded s (Read r k p y) (overread_in a.configuration r k p y) state_new
          fault_is over = inr (inl (residuals, row, reads, refl, refl, subst (λ (z : Slice). IsOverread a (coded n) z.past) (slice_now s k slice_new inside_s) over))

          pub unended_is : IsWithin a (coded n) (slice_at state_new k).past → IsLastLine a.configuration r p y → SliceGoesOn a (coded n) (slice_at state_new k).past (slice_at state_new k).bits →
              Agrees a.configuration s r k p y width row → FaultsWith a coded s (Read r k p y) (unended_in a.configuration r k p y) state_new
          unended_is within is lacks agrees = inr (inr (inl (
            residuals,
            row,
            reads,
            refl,
            refl,
            subst (λ (z : Slice). IsWithin a (coded n) z.past) (slice_now s k slice_new inside_s) within,
            is,
            subst (λ (z : Slice). SliceGoesOn a (coded n) z.past z.bits) (slice_now s k slice_new inside_s) lacks,
            agrees,
          )))

          pub differs_is : IsWithin a (coded n) (slice_at state_new k).past → (x v : ℕ) → x < width → Agrees a.configuration s r k p y x row → SaidBefore a.configuration s r k p y x v →
              slice_index row x ≢ v → FaultsWith a coded s (Read r k p y) (overlap_in a.configuration r k p y x) state_new
          differs_is within x v small front said other = inr (inr (inr (
            residuals,
            row,
            x,
            reads,
            refl,
            refl,
            subst (λ (z : Slice). IsWithin a (coded n) z.past) (slice_now s k slice_new inside_s) within,
            small,
            front,
            v,
            said,
            other,
          )))

          cell_now : plane slice_new.cells p ≡ samples ++ row
          cell_now = plane_now old.cells p (samples ++ row) (omega (arith, inside_p, (tied.each k inside_k).cells))

          fits : k * slots + slots ≤ length states
          fits = fits_part k a.configuration.columns slots (length states) inside_k states_long

          tied_now : TiedColumn a (coded n) payload next q (window (k * slots) slots (put (k * slots) slots states new)) slice_new
          tied_now =
              let t = tied.each k inside_k in
              let w : window (k * slots) slots (put (k * slots) slots states new) ≡ new = put_window states new (k * slots) slots fits new_long in
              let some : 0 < 2 ^ bits_of a.configuration = omega (arith, t.small p 0) in
              record {
                bytes_are = ap (bytes_in payload) same ∙ t.bytes_are;
                indexes = ap (λ (z : Column). z.indexes) same ∙ t.indexes;
                cells = length-set old.cells p (samples ++ row) ∙ t.cells;
                small = λ m i. elim (cases_eq m p) [
                  | inl here ↦ subst (λ z. slice_index (plane slice_new.cells z) i < 2 ^ bits_of a.configuration) (sym here)
                      (subst (λ z. slice_index z i < 2 ^ bits_of a.configuration) (sym cell_now) (small_both (2 ^ bits_of a.configuration) samples row some (t.small p) small i))
                  | inr other ↦ subst (λ z. slice_index z i < 2 ^ bits_of a.configuration) (sym (plane_other old.cells p m (samples ++ row) other)) (t.small m i)
                ];
                begun = λ m h. let other : m ≢ p = omega (arith, h, before_next) in plane_other old.cells p m (samples ++ row) other ∙ t.begun m h;
                stands = parked_now;
                kept = subst (λ z. ByCoder (is_rice a.configuration.coder) (HasStates a.table z 33 slice_new.past) (KeepsBits a (coded n) q z slice_new)) (sym w) kept_now;
              }

          pub columns_are : TiedColumns a coded r next payload (row_slices (slice_set columns k q) (put (k * slots) slots states new)) state_new
          columns_are = record {
            known = length-set s.columns k slice_new ∙ tied.known;
            each = λ j h. elim (cases_eq j k) [
              | inl here ↦
                  let one = subst (λ z. TiedColumn a (coded n) payload next z (window (k * slots) slots (put (k * slots) slots states new)) slice_new) (sym column_now) tied_now in
                  let two = subst (λ z. TiedColumn a (coded n) payload next (column_at (slice_set columns k q) k) (window (k * slots) slots (put (k * slots) slots states new)) z) (sym (slice_now s k slice_new inside_s)) one in
                  subst (λ z. TiedColumn a (coded (slice_number a.configuration r z)) payload next (column_at (slice_set columns k q) z) (window (z * slots) slots (put (k * slots) slots states new)) (slice_at state_new z)) (sym here) two
              | inr other ↦
                  let apart : (j * slots + slots ≤ k * slots) ⊎ (k * slots + slots ≤ j * slots) = elim (cases_lt j k) [
                    | inl less ↦ inl (part_apart j k slots less)
                    | inr more ↦ let less : k < j = omega (arith, more, other) in inr (part_apart k j slots less)
                  ] in
                  let w : window (j * slots) slots (put (k * slots) slots states new) ≡ window (j * slots) slots states =
                  put_other states new (k * slots) slots fits new_long (j * slots) slots (fits_part j a.configuration.columns slots (length states) h states_long) apart in
                  let one = subst (λ z. TiedColumn a (coded (slice_number a.configuration r j)) payload next z (window (j * slots) slots states) (slice_at s j)) (sym (column_other j other)) (tied.each j h) in
                  let two = subst (λ z. TiedColumn a (coded (slice_number a.configuration r j)) payload next (column_at (slice_set columns k q) j) z (slice_at s j)) (sym w) one in
                  subst (λ z. TiedColumn a (coded (slice_number a.configuration r j)) payload next (column_at (slice_set columns k q) j) (window (j * slots) slots (put (k * slots) slots states new)) z) (sym (slice_other s k j slice_new other)) two
            ];
          }

          pub others : SameOthers p s state_new
          others = λ j m other. elim (cases_eq j k) [
            | inl here ↦
                let now : plane (slice_at state_new k).cells m ≡ plane (slice_at s k).cells m = ap (λ (z : Slice). plane z.cells m) (slice_now s k slice_new inside_s) ∙ plane_other old.cells p m (samples ++ row) other in
                subst (λ z. plane (slice_at state_new z).cells m ≡ plane (slice_at s z).cells m) (sym here) now
            | inr apart ↦ ap (λ (z : Slice). plane z.cells m) (slice_other s k j slice_new apart)
          ]

          pub line_is : Agrees a.configuration s r k p y width row → AreParts (across (division_of a.configuration) p) → Rolling →
              offset + a.configuration.width ≤ length cur → TiedLine a.configuration p offset k y (rolling_lines two one cur) s → TiedLine a.configuration p offset (suc k) y (rolling_lines two one (put left width cur row)) state_new
          line_is agrees are rolling room line =
              let all = inside (across (division_of a.configuration) p) are k inside_k in
              let cur_fits : left + width ≤ length cur = omega (arith, all, room) in
              record {
                unread = λ j from h.
                    let apart : j ≢ k = omega (arith, from) in
                    subst (λ (z : Slice). Rolls (width_in a.configuration p j) (plane z.cells p) (part_of a.configuration p offset j two) (part_of a.configuration p offset j one) y) (sym (slice_other s k j slice_new apart))
                    (line.unread j (omega (arith, from)) h);
                read = λ j upto h. elim (cases_eq j k) [
                  | inl here ↦
                      let w : window left width (put left width cur row) ≡ row = put_window cur row left width cur_fits row_long in
                      let cell : plane (slice_at state_new k).cells p ≡ samples ++ row = ap (λ (z : Slice). plane z.cells p) (slice_now s k slice_new inside_s) ∙ cell_now in
                      let one_more : y + 1 ≡ suc y = omega arith in
                      let now : Rolls width (samples ++ row) (window left width one) row (suc y) =
                      subst (λ z. Rolls width (samples ++ row) (window left width one) row z) one_more (rolling width y samples (window left width two) (window left width one) row row_long rolls) in
                      let now = subst (λ z. Rolls width z (window left width one) row (suc y)) (sym cell) now in
                      let now = subst (λ z. Rolls width (plane (slice_at state_new k).cells p) (window left width one) z (suc y)) (sym w) now in
                      subst (λ z. Rolls (width_in a.configuration p z) (plane (slice_at state_new z).cells p) (part_of a.configuration p offset z one) (part_of a.configuration p offset z (put left width cur row)) (suc y)) (sym here) now
                  | inr apart ↦
                      let less : j < k = omega (arith, upto, apart) in
                      let side = across (division_of a.configuration) p in
                      let shared = shared_of side k in
                      let front = before side are j k less (omega (arith, inside_k)) in
                      let begins = are.begins k inside_k in
                      let few = are.few k inside_k in
                      let some = are.some k inside_k in
                      let back = inside side are j (omega (arith, less, inside_k)) in
                      let same : (i : ℕ) → i < shared → get_or row i 0 ≡ get_or cur (left + i) 0 = λ i h.
                      agrees i (left_sample a.configuration s k p y) (omega (arith, h, few, some)) (inl (h, refl)) ∙ sym (left_stands a.configuration p offset y two one cur s are k i inside_k line h) in
                      let w : part_of a.configuration p offset j (put left width cur row) ≡ part_of a.configuration p offset j cur =
                      put_agrees cur row left width cur_fits row_long shared (omega (arith, few, some)) same (offset + left_of a.configuration p j) (width_in a.configuration p j) (omega (arith, back, room)) (omega (arith, front, begins)) in
                      let was = subst (λ z. Rolls (width_in a.configuration p j) (plane (slice_at s j).cells p) (part_of a.configuration p offset j one) z (suc y)) (sym w) (line.read j less h) in
                      subst (λ (z : Slice). Rolls (width_in a.configuration p j) (plane z.cells p) (part_of a.configuration p offset j one) (part_of a.configuration p offset j (put left width cur row)) (suc y)) (sym (slice_other s k j slice_new apart)) was
                ];
              }

          pub step_made : AreParts (across (division_of a.configuration) p) → Rolling →
              offset + a.configuration.width ≤ length cur → TiedLine a.configuration p offset k y (rolling_lines two one cur) s →
              SegmentMade a coded r next payload p offset y k (slice_set columns k q) (put (k * slots) slots states new) two one (put left width cur row) s
          step_made are rolling room line = record {
            state = state_new;
            row = row;
            row_is =
                let all = inside (across (division_of a.configuration) p) are k inside_k in
                put_window cur row left width (omega (arith, all, room)) row_long;
            step = step;
            fault = fault_is;
            unended = unended_is;
            differs = differs_is;
            columns_are = columns_are;
            line_is = λ agrees. line_is agrees are rolling room line;
            others = others;
            same = refl;
          }

        -- of range coded samples
        pub range_made : is_rice a.configuration.coder ≡ false →
            SegmentRead (bytes_in payload (column_at columns k)) (coding_by a.table (set_here (column_at columns k).indexes) (bits_of a.configuration)) (base_of a.configuration p) 33 old.past samples width y q.parked new row →
            AreParts (across (division_of a.configuration) p) → Rolling → offset + a.configuration.width ≤ length cur → TiedLine a.configuration p offset k y (rolling_lines two one cur) s →
            SegmentMade a coded r next payload p offset y k (slice_set columns k q) (put (k * slots) slots states new) two one (put left width cur row) s
        range_made is raw =
            let h = subst (λ z. SegmentRead z (coding_by a.table (set_here (column_at columns k).indexes) (bits_of a.configuration)) (base_of a.configuration p) 33 old.past samples width y q.parked new row) (tied.each k inside_k).bytes_are raw in
            let read : SegmentRead (coded n) (coding_by a.table (set_in a.configuration old.head p) (bits_of a.configuration)) (base_of a.configuration p) 33 old.past samples width y q.parked new row =
            subst (λ z. SegmentRead (coded n) (coding_by a.table z (bits_of a.configuration)) (base_of a.configuration p) 33 old.past samples width y q.parked new row) set_same h in
            step_made read.residuals (record { above = rolls.long; long = by_range is read.long; row_long = row_long; codes = by_range is read.codes }) read.stands.decoder (by_range is read.stands.has)

        -- of Golomb-Rice coded ones, which leave the decoder as it was
        pub bits_made : is_rice a.configuration.coder ≡ true → q.parked ≡ (column_at columns k).parked → BitsLine a coded n p width y old row q new →
            AreParts (across (division_of a.configuration) p) → Rolling → offset + a.configuration.width ≤ length cur → TiedLine a.configuration p offset k y (rolling_lines two one cur) s →
            SegmentMade a coded r next payload p offset y k (slice_set columns k q) (put (k * slots) slots states new) two one (put left width cur row) s
        bits_made is parked line =
            let one : IsParked (coded n) a.table q.parked old.past = subst (λ z. IsParked (coded n) a.table z old.past) (sym parked) (tied.each k inside_k).stands in
            let two : IsParked (coded n) a.table q.parked (old.past ++ []) = subst (IsParked (coded n) a.table q.parked) (sym (append-nil old.past)) one in
            step_made [] (record { above = rolls.long; long = by_rice is refl; row_long = row_long; codes = by_rice is line.codes }) two (by_rice is line.kept)

      module _ (is : is_rice a.configuration.coder ≡ false) (x : ℕ) (row_long : length row ≡ x) (less : x < width) (telling : Telling)
          (raw : SegmentRefused (bytes_in payload (column_at columns k)) (coding_by a.table (set_here (column_at columns k).indexes) (bits_of a.configuration)) (base_of a.configuration p) 33 old.past samples width y q.parked row x) where
        pub refused_one : SegmentRefused (coded n) (coding_by a.table (set_in a.configuration old.head p) (bits_of a.configuration)) (base_of a.configuration p) 33 old.past samples width y q.parked row x
        refused_one =
            let h = subst (λ z. SegmentRefused z (coding_by a.table (set_here (column_at columns k).indexes) (bits_of a.configuration)) (base_of a.configuration p) 33 old.past samples width y q.parked row x) (tied.each k inside_k).bytes_are raw in
            subst (λ z. SegmentRefused (coded n) (coding_by a.table z (bits_of a.configuration)) (base_of a.configuration p) 33 old.past samples width y q.parked row x) set_same h

        abbrev slice_last : Slice
        slice_last = after_steps old (steps_of_stop a coded old p width y refused_one.residuals row)

        abbrev state_last : State
        state_last = put_slice s k slice_last

        pub stopped : (f : FrameFault) → f ≡ record { fault = fault.SymbolTooLong; slice = n; plane = p; line = top_of a.configuration p r + y; x = left_of a.configuration p k + x } →
            Stopped a coded (slice_set columns k q) (Read r k p y ∷ []) f s
        stopped f f_is =
            let count = refused_one.count in
            let place : ℕ → FrameFault = λ z. record { fault = fault.SymbolTooLong; slice = n; plane = p; line = top_of a.configuration p r + y; x = left_of a.configuration p k + z } in
            record {
              state = state_last;
              stops = inl (inl (by_range is (refused_one.residuals, row, record { above = rolls.long; short = omega (arith, count, less); row_long = row_long ∙ sym count; refuses = refused_one.refuses }, f_is ∙ ap place (sym count), refl)));
              told = record {
                long = length-set s.columns k slice_last ∙ tied.known ∙ sym long ∙ sym (length-set columns k q);
                each = λ j h. elim (cases_eq j k) [
                  | inl here ↦
                      let one : told_by (column_at (slice_set columns k q) k).parked ≡ tally_after a.table (slice_at state_last k).past =
                      ap (λ (z : Column). told_by z.parked) column_now ∙ refused_one.told ∙ ap (λ (z : Slice). tally_after a.table z.past) (sym (slice_now s k slice_last inside_s)) in
                      subst (λ z. told_by (column_at (slice_set columns k q) z).parked ≡ tally_after a.table (slice_at state_last z).past) (sym here) one
                  | inr other ↦
                      let h : j < a.configuration.columns = omega (arith, h, long, length-set columns k q) in
                      let was : told_by (column_at columns j).parked ≡ tally_after a.table (slice_at s j).past = parked_tells telling _ a.table (column_at columns j).parked (slice_at s j).past (tied.each j h).stands in
                      ap (λ (z : Column). told_by z.parked) (column_other j other) ∙ was ∙ ap (λ (z : Slice). tally_after a.table z.past) (sym (slice_other s k j slice_last other))
                ];
              };
              lines = refl;
              done = refl;
            }

      -- bits that are refused: what is known stays
      pub bits_stopped : is_rice a.configuration.coder ≡ true → q.parked ≡ (column_at columns k).parked → (x : ℕ) → Telling → (why : CodecFault) → BitsStop a coded n p width y old row x why → (f : FrameFault) →
          f ≡ fault_in a.configuration why r k p y (left_of a.configuration p k + x) → Stopped a coded (slice_set columns k q) (Read r k p y ∷ []) f s
      bits_stopped is parked x telling why stop f f_is = record {
        state = s;
        stops = inl (inl (by_rice is (row, x, stop.reason, stop.refuses, f_is ∙ ap (λ z. fault_in a.configuration z r k p y (left_of a.configuration p k + x)) stop.is, refl)));
        told = record {
          long = tied.known ∙ sym long ∙ sym (length-set columns k q);
          each = λ j h.
              let few : j < a.configuration.columns = omega (arith, h, long, length-set columns k q) in
              let was : told_by (column_at columns j).parked ≡ tally_after a.table (slice_at s j).past = parked_tells telling _ a.table (column_at columns j).parked (slice_at s j).past (tied.each j few).stands in
              elim (cases_eq j k) [
                | inl here ↦
                    let one : told_by (column_at (slice_set columns k q) k).parked ≡ told_by (column_at columns k).parked = ap (λ (z : Column). told_by z.parked) column_now ∙ ap told_by parked in
                    subst (λ z. told_by (column_at (slice_set columns k q) z).parked ≡ told_by (column_at columns z).parked) (sym here) one ∙ was
                | inr other ↦ ap (λ (z : Column). told_by z.parked) (column_other j other) ∙ was
              ];
        };
        lines = refl;
        done = refl;
      }
