-- A payload that codes a picture is decoded to its end.
use Rattle.std.proofs.Common.{◌≡◌, ℕ, suc, ◌+◌, ◌-◌, ◌*◌, ◌/◌, ◌%◌, ◌^◌, ◌<◌, ◌≤◌, true, List, ◌++◌, take, drop, inl, inr, ap, sym, subst, ◌∙◌, arith}
use Rattle.std.proofs.Math.Nat.{mul-le-mul_left}
use Rattle.std.proofs.lemmas.Bool.{cases_lt}
use Rattle.std.proofs.lemmas.List.{get_or-drop}
use Rattle.ffv1_range.specs.Codes.{AreBytes}
use Rattle.ffv1_line.specs.Cell.{Cell}
use Rattle.ffv1_record.specs.Configuration.{Configuration, is_rct}
use Rattle.ffv1_record.specs.Accepted.{Accepted}
use Rattle.ffv1_slice.specs.Grid.{coded_of as length_in, across, down, division_of, whole_of, shared_of}
use Rattle.ffv1_slice.specs.Cutting.{coded_of}
use Rattle.ffv1_frame.specs.Sides.{Alike, HasPart, Sides}
use Rattle.ffv1_frame.specs.Picture.{Planes, IsPicture, plane_width, plane_height, coded_at}
use Rattle.ffv1_frame.specs.SliceList.{Said, bits_of}
use Rattle.ffv1_frame.specs.CodedSlice.{CodesSlice, IsBodyOf}
use Rattle.ffv1_frame.specs.RiceLines.{rice_bits}
use Rattle.ffv1_frame.specs.Ending.{SliceEnds}
use Rattle.ffv1_slice.specs.Head.{key_steps, head_steps}
use Rattle.ffv1_frame.specs.Order.{lines_down}
use Rattle.ffv1_frame.specs.Decoding.{slice_number, width_in, left_of, top_of}
use Rattle.ffv1_frame.proofs.lemmas.laws.decoding.EventsOf.{few_in_rct}
use Rattle.ffv1_frame.proofs.lemmas.laws.decoding.LinesRead.{row_lines}
use Rattle.ffv1_frame.proofs.lemmas.laws.decoding.SliceBodies.{CellLaws}
use Rattle.ffv1_frame.proofs.lemmas.laws.decoding.RowsDone.{SuitsFew}
use Rattle.ffv1_frame.proofs.lemmas.JoinedLines.{take_small}
use Rattle.ffv1_frame.proofs.lemmas.laws.decoding.CellsShown.{across_alike, down_alike, alike_down}
use Rattle.ffv1_frame.proofs.lemmas.picture.PlaneWidths.{reduced_none}
use Rattle.ffv1_frame.proofs.lemmas.laws.decoding.PictureLines.{ColourLaws}
use Rattle.ffv1_frame.proofs.lemmas.laws.decoding.PictureMade.{PictureLaws}
use Rattle.ffv1_frame.proofs.lemmas.laws.decoding.SlicesMade.{column_inside, number_is}
use Rattle.ffv1_frame.proofs.lemmas.laws.decoding.SlicesRead.{FrontLaws}
use Rattle.ffv1_frame.proofs.lemmas.laws.decoding.FrameRead.{Known, FrameGoes, frame_goes}

pub wide_in_rct : (c : Configuration) → Alike c → (p : ℕ) → plane_width c p ≡ c.width
wide_in_rct c alike p = ap whole_of (across_alike c alike p) ∙ reduced_none c.width

pub high_in_rct : (c : Configuration) → Alike c → (p : ℕ) → plane_height c p ≡ c.height
high_in_rct c alike p = ap whole_of (down_alike c alike p) ∙ reduced_none c.height

-- in RCT all planes have as many lines
pub lines_alike : (c : Configuration) → Sides c → is_rct c.colour ≡ true → (p r : ℕ) → lines_down c p r ≡ lines_down c 0 r
lines_alike c sides e p r = ap (λ s. length_in s r) (down_alike c (sides.rct e) p)

-- and no two rows of slices have a line of a plane in common
pub flat_rows : (c : Configuration) → Sides c → is_rct c.colour ≡ true → (p r : ℕ) → r < c.rows → shared_of (down (division_of c) p) r ≡ 0
flat_rows c sides e p r inside = alike_down c (sides.rct e) sides.rows_tile p r inside

pub picture_laws : (a : Accepted) → Sides a.configuration → CellLaws → SuitsFew → PictureLaws a
picture_laws a sides cells few = record {
  tiles_h = sides.columns_tile;
  tiles_v = sides.rows_tile;
  in_rct = record {
    alike = sides.rct;
    wide = λ e p. wide_in_rct a.configuration (sides.rct e) p;
    few = λ e. few_in_rct a.configuration (sides.rct e).chroma;
  };
  deep = sides.deep;
  columns = sides.columns;
  rows = sides.rows;
  cells = cells;
  few = few;
}

-- parts of bytes are bytes
pub coded_bytes : (payload : List ℕ) (foot : ℕ) (spans : ℕ → ℕ) (n : ℕ) → AreBytes payload → AreBytes (coded_of payload foot spans n)
coded_bytes payload foot spans n are = λ k.
    take_small 256 (omega arith) (spans (suc n) - foot - spans n) (drop (spans n) payload) (λ j. rw (get_or-drop (spans n) payload j 0) (are (spans n + j))) k

-- a number by its quotient and its remainder
one_quotient : (q m r k c : ℕ) → m < c → k < c → q * c + m ≡ r * c + k → (q ≡ r) × (m ≡ k)
one_quotient q m r k c few less same = elim (cases_lt q r) [
  | inl below ↦ let more = mul-le-mul_left {m = suc q} {n = r} c below in absurd (omega (arith, more, same, few))
  | inr other ↦ elim (cases_lt r q) [
    | inl above ↦ let more = mul-le-mul_left {m = suc r} {n = q} c above in absurd (omega (arith, more, same, less))
    | inr here ↦
        let is : q ≡ r = omega (arith, other, here) in
        (is, omega (arith, same, ap (λ n. n * c) is))
  ]
]

pub row_and_column : (r k columns : ℕ) → k < columns → ((r * columns + k) / columns ≡ r) × ((r * columns + k) % columns ≡ k)
row_and_column r k columns inside =
    let n = r * columns + k in
    let some : 0 < columns = omega (arith, inside) in
    one_quotient (n / columns) (n % columns) r k columns (column_inside n columns some) inside (number_is n columns some)

pub number_inside : (r k rows columns : ℕ) → r < rows → k < columns → r * columns + k < columns * rows
number_inside r k rows columns r_inside k_inside =
    let more = mul-le-mul_left {m = suc r} {n = rows} columns r_inside in
    omega (arith, more, k_inside)

module _ (a : Accepted) (planes : Planes) (info : Said) (coded : ℕ → List ℕ) where
  -- the cells of a slice by its column and its row
  cells_by : ℕ → ℕ → ℕ → Cell
  cells_by k r p = record {
    width = width_in a.configuration p k;
    at = λ x y. coded_at a.configuration planes p (left_of a.configuration p k + x) (top_of a.configuration p r + y);
  }

  known_of : ((p x y : ℕ) → coded_at a.configuration planes p x y < 2 ^ bits_of a.configuration) → (r k : ℕ) → k < a.configuration.columns → CodesSlice (coded (slice_number a.configuration r k)) a planes info (slice_number a.configuration r k) → Known a coded planes info r k
  unfolding cells_by
  known_of small r k inside slice =
      let c = a.configuration in
      let place = row_and_column r k c.columns inside in
      let n = slice_number c r k in
      record {
        head = slice.head;
        body = slice.body;
        is_head = slice.is_head;
        says = slice.says;
        coding = record {
          codes = slice.codes;
          ending =
              subst (λ i. SliceEnds a (coded n) (key_steps n ++ (head_steps c n slice.head ++ slice.body)) (rice_bits c slice.head (cells_by k i) (row_lines c i))) place.0
              (subst (λ j. SliceEnds a (coded n) (key_steps n ++ (head_steps c n slice.head ++ slice.body)) (rice_bits c slice.head (cells_by j (n / c.columns)) (row_lines c (n / c.columns)))) place.1 slice.ending);
          small = λ p x y. small p (left_of c p k + x) (top_of c p r + y);
        };
        is_body =
            subst (λ i. IsBodyOf c slice.head (cells_by k i) (row_lines c i) slice.body) place.0
            (subst (λ j. IsBodyOf c slice.head (cells_by j (n / c.columns)) (row_lines c (n / c.columns)) slice.body) place.1 slice.is_body);
      }

  pub goes_of : (laws : PictureLaws a) → ((p x : ℕ) → x < whole_of (across (division_of a.configuration) p) → HasPart (across (division_of a.configuration) p) x) → ColourLaws →
      ((n : ℕ) → FrontLaws a (coded n)) → ((n : ℕ) → n < a.configuration.columns * a.configuration.rows → CodesSlice (coded n) a planes info n) → IsPicture a.configuration planes →
      ((p x y : ℕ) → coded_at a.configuration planes p x y < 2 ^ bits_of a.configuration) → FrameGoes a coded planes info
  goes_of laws part colours front slices picture small =
      frame_goes a coded planes info laws (λ r k r_inside k_inside. front (slice_number a.configuration r k))
      (λ r k r_inside k_inside. known_of small r k k_inside (slices (slice_number a.configuration r k) (number_inside r k a.configuration.rows a.configuration.columns r_inside k_inside)))
      picture part colours

-- slices that lie alike have the same bytes
pub same_coded : (payload : List ℕ) (foot : ℕ) (spans other : ℕ → ℕ) (n count : ℕ) → n < count → ((s : ℕ) → s ≤ count → spans s ≡ other s) → coded_of payload foot other n ≡ coded_of payload foot spans n
same_coded payload foot spans other n count inside same =
    let here : other n ≡ spans n = sym (same n (omega (arith, inside))) in
    let next : other (suc n) ≡ spans (suc n) = sym (same (suc n) inside) in
    ap (λ m. take (other (suc n) - foot - m) (drop m payload)) here ∙ ap (λ m. take (m - foot - spans n) (drop (spans n) payload)) next
