-- A line that was read is what its columns have, and is above the next one.
use Rattle.std.proofs.Common.{◌≡◌, ℕ, zero, suc, ◌+◌, ◌*◌, ◌^◌, ◌<◌, ◌≤◌, inl, inr, List, ◌++◌, slice_index, take, drop, ap, sym, subst, ◌∙◌, arith}
use Rattle.std.specs.List.{flat_map, range_with_len}
use Rattle.std.proofs.lemmas.Bool.{cases_lt}
use Rattle.std.proofs.lemmas.List.{drop-drop, drop-take, get_or_past, get_or-drop, length-take}
use Rattle.std.proofs.Math.Seq.{take-add}
use Rattle.ffv1_record.specs.Configuration.{Configuration}
use Rattle.ffv1_record.specs.Accepted.{Accepted}
use Rattle.ffv1_line.specs.Cell.{Rolls}
use Rattle.ffv1_slice.specs.Grid.{Side, division_of, across, begin_of, length_of, first_of, coded_of, shared_of}
use Rattle.ffv1_decode.specs.declared.column.Column.{Column}
use Rattle.ffv1_frame.specs.Picture.{plane, plane_width}
use Rattle.ffv1_frame.specs.SliceList.{bits_of}
use Rattle.ffv1_decode.specs.Internal.Places.{AreParts}
use Rattle.ffv1_frame.specs.Decoding.{State, slice_at, left_of, width_in, own_row, row_in, coded_line}
use Rattle.ffv1_frame.specs.Windows.{window}
use Rattle.ffv1_decode.specs.Internal.Tied.{TiedColumns, TiedLine, TiedPlanes, part_of}
use Rattle.ffv1_decode.specs.Internal.Tied.{row_slices, rolling_lines, plane_group}
use Rattle.ffv1_decode.specs.Internal.Finished.{StandRead}
use Rattle.ffv1_frame.proofs.lemmas.WrittenParts.{window_at}
use Rattle.ffv1_decode.proofs.lemmas.Ranges.{joined_more}
use Rattle.ffv1_decode.proofs.lemmas.segment.SegmentTied.{small_both}
use Rattle.ffv1_decode.proofs.lemmas.shared.SharedColumns.{rolled_row}

-- the samples of a line are those of its columns
module _ (c : Configuration) (p offset y : ℕ) (two one cur : List ℕ) (s : State) (tied : TiedLine c p offset c.columns y (rolling_lines two one cur) s) (are : AreParts (across (division_of c) p)) where
  abbrev row_of : ℕ → List ℕ
  row_of k = own_row c p k y (plane (slice_at s k).cells p)

  abbrev side : Side
  side = across (division_of c) p

  -- what of a column the column before does not code
  own_part : (k : ℕ) → k < c.columns → drop (shared_of side k) (part_of c p offset k cur) ≡ window (offset + begin_of side k) (length_of side k) cur
  own_part k inside =
      let shared = shared_of side k in
      let begins = are.begins k inside in
      let next : begin_of side k + length_of side k ≡ first_of side k + coded_of side k = are.next k inside in
      let whole : coded_of side k ≡ shared + length_of side k = omega (arith, begins, next) in
      let place : offset + left_of c p k + shared ≡ offset + begin_of side k = omega (arith, begins) in
      ap (λ n. drop shared (take n (drop (offset + left_of c p k) cur))) whole
      ∙ drop-take shared (length_of side k) (drop (offset + left_of c p k) cur)
      ∙ ap (take (length_of side k)) (drop-drop shared (offset + left_of c p k) cur)
      ∙ ap (λ n. window n (length_of side k) cur) place

  up_to : (k : ℕ) → k ≤ c.columns → flat_map row_of (range_with_len 0 k) ≡ window offset (begin_of side k) cur
  up_to zero h = ap (λ m. take m (drop offset cur)) (sym are.first)
  up_to (suc k) h =
      let before = up_to k (omega (arith, h)) in
      let inside : k < c.columns = omega (arith, h) in
      let here : row_of k ≡ window (offset + begin_of side k) (length_of side k) cur =
      ap (drop (shared_of side k)) (sym (rolled_row (width_in c p k) y (plane (slice_at s k).cells p) (part_of c p offset k one) (part_of c p offset k cur) (tied.read k inside inside))) ∙ own_part k inside in
      let zero_is : 0 + k ≡ k = omega arith in
      joined_more row_of 0 k ∙ ap (λ n. flat_map row_of (range_with_len 0 k) ++ row_of n) zero_is
      ∙ ap (λ z. z ++ row_of k) before ∙ ap (λ z. window offset (begin_of side k) cur ++ z) here
      ∙ ap (λ z. window offset (begin_of side k) cur ++ take (length_of side k) z) (sym (drop-drop (begin_of side k) offset cur))
      ∙ sym (take-add (begin_of side k) (length_of side k) (drop offset cur))
      ∙ ap (λ m. window offset m cur) (are.next k inside)

  pub whole_line : coded_line c s y p ≡ window offset (plane_width c p) cur
  whole_line = up_to c.columns (omega arith) ∙ ap (λ m. window offset m cur) are.last

  pub line_turned : (any : List ℕ) (t : State) → ((k : ℕ) → plane (slice_at t k).cells p ≡ plane (slice_at s k).cells p) → TiedLine c p offset 0 (suc y) (rolling_lines one cur any) t
  line_turned any t same = record {
    unread = λ k from h. subst (λ z. Rolls (width_in c p k) z (part_of c p offset k one) (part_of c p offset k cur) (suc y)) (sym (same k)) (tied.read k h h);
    read = λ k upto h. absurd (omega (arith, upto));
  }

-- samples of some bits
row_small : (bound w y : ℕ) (samples : List ℕ) → 0 < bound → ((i : ℕ) → slice_index samples i < bound) → (i : ℕ) → slice_index (row_in w y samples) i < bound
row_small bound w y samples some small i = elim (cases_lt i w) [
  | inl less ↦ subst (λ z. z < bound) (sym (window_at (y * w) w samples i less)) (small (y * w + i))
  | inr over ↦
      let long = length-take w (drop (y * w) samples) in
      subst (λ z. z < bound) (sym (get_or_past (row_in w y samples) i 0 (omega (arith, long, over)))) some
]

joined_small : (bound : ℕ) (f : ℕ → List ℕ) (n : ℕ) → 0 < bound → ((k : ℕ) → k < n → (i : ℕ) → slice_index (f k) i < bound) → (i : ℕ) → slice_index (flat_map f (range_with_len 0 n)) i < bound
joined_small bound f zero some each i = some
joined_small bound f (suc n) some each i =
    let zero_is : 0 + n ≡ n = omega arith in
    let is : flat_map f (range_with_len 0 (suc n)) ≡ flat_map f (range_with_len 0 n) ++ f n = joined_more f 0 n ∙ ap (λ k. flat_map f (range_with_len 0 n) ++ f k) zero_is in
    subst (λ z. slice_index z i < bound) (sym is)
    (small_both bound (flat_map f (range_with_len 0 n)) (f n) some (joined_small bound f n some (λ k h. each k (omega (arith, h)))) (λ k h. each n (omega arith) k) i)

pub line_small : (a : Accepted) (coded : ℕ → List ℕ) (r next : ℕ) (payload : List ℕ) (columns : List Column) (states : List ℕ) (s : State) → TiedColumns a coded r next payload (row_slices columns states) s → 0 < a.configuration.columns →
    (p y i : ℕ) → slice_index (coded_line a.configuration s y p) i < 2 ^ bits_of a.configuration
line_small a coded r next payload columns states s tied many p y i =
    let some : 0 < 2 ^ bits_of a.configuration = omega (arith, (tied.each 0 many).small p 0) in
    joined_small (2 ^ bits_of a.configuration) (λ k. own_row a.configuration p k y (plane (slice_at s k).cells p)) a.configuration.columns some
    (λ k h j.
    let shared = shared_of (across (division_of a.configuration) p) k in
    let samples = plane (slice_at s k).cells p in
    subst (λ z. z < 2 ^ bits_of a.configuration) (sym (get_or-drop shared (row_in (width_in a.configuration p k) y samples) j 0))
    (row_small (2 ^ bits_of a.configuration) (width_in a.configuration p k) y samples some ((tied.each k h).small p) (shared + j))) i

-- what was read stands in the line
pub stand_read : (a : Accepted) (coded : ℕ → List ℕ) (r next : ℕ) (payload : List ℕ) (columns : List Column) (states two one cur : List ℕ) (first count y : ℕ) (s : State) → TiedColumns a coded r next payload (row_slices columns states) s → 0 < a.configuration.columns →
    TiedPlanes a.configuration (plane_group first count) a.configuration.columns 0 y (rolling_lines two one cur) s → ((p : ℕ) → AreParts (across (division_of a.configuration) p)) → StandRead a.configuration first count y cur s
stand_read a coded r next payload columns states two one cur first count y s tied many planes parts = record {
  lines = λ i h. whole_line a.configuration (first + i) (i * a.configuration.width) y two one cur s (planes.todo i (omega arith) h) (parts (first + i));
  small = λ i x h. line_small a coded r next payload columns states s tied many (first + i) y x;
}
