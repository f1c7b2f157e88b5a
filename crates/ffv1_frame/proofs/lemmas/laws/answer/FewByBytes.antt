-- In Wide few decisions are made for the coded bytes of a payload, however far decoding has come.
use Rattle.std.proofs.Common.{◌≡◌, refl, ℕ, zero, suc, ◌+◌, ◌-◌, ◌*◌, ◌/◌, ◌^◌, ◌<◌, ◌≤◌, max, true, List, ◌++◌, length, drop, ap, ◌∙◌, arith, length-append, mul_assoc}
use Rattle.std.specs.List.{range_with_len}
use Rattle.std.proofs.Math.Nat.{mul-le-mul_left, le-max_left, le-max_right}
use Rattle.std.proofs.Math.Pow.{pow_pos}
use Rattle.std.proofs.lemmas.Nat.{div_below}
use Rattle.std.proofs.lemmas.List.{length-take}
use Rattle.ffv1_range.specs.Symbols.{Step}
use Rattle.ffv1_record.specs.declared.config.Profile.TheVariants as profile
use Rattle.ffv1_record.specs.Configuration.{is_rct}
use Rattle.ffv1_record.specs.Accepted.{Accepted, edge}
use Rattle.ffv1_slice.specs.Grid.{across, division_of, factor_of, reduced}
use Rattle.ffv1_slice.specs.Cutting.{IsCutting, coded_of}
use Rattle.ffv1_slice.specs.Footer.{foot_length}
use Rattle.ffv1_frame.specs.Sides.{Tiles}
use Rattle.ffv1_frame.specs.Overread.{IsWithin, renormalisations_of}
use Rattle.ffv1_frame.specs.Order.{events_of, lines_down}
use Rattle.ffv1_frame.specs.Bounds.{coded_bytes}
use Rattle.ffv1_frame.specs.Answer.{decisions_in}
use Rattle.ffv1_frame.specs.Decoding.{State, Slice, StepsBy, FaultsWith, at_first, slice_number, width_in, steps_of_line, steps_of_stop}
use Rattle.ffv1_frame.proofs.lemmas.laws.decoding.Machines.{Reaches}
use Rattle.ffv1_frame.proofs.lemmas.laws.decoding.FromCoded.{number_inside}
use Rattle.ffv1_frame.proofs.lemmas.picture.PlaneWidths.{reduced_none}
use Rattle.ffv1_frame.proofs.lemmas.Totals.{total, total_same, total_add, total_scaled, total_each, total_parts}
use Rattle.ffv1_frame.proofs.lemmas.laws.answer.FewDecisions.{StepLaws, line_few, stop_few, reason_short}
use Rattle.ffv1_frame.proofs.lemmas.laws.answer.FewInFrame.{SliceLaws, few_in, frame_reached}

-- a size over a factor is no greater
pub reduced_less : (log2 n : ℕ) → reduced log2 n ≤ n
unfolding reduced
reduced_less log2 n =
    let d = 2 ^ log2 in
    let some : 0 < d = pow_pos log2 in
    let more = mul-le-mul_left {m = 1} {n = d} n some in
    let below : n + (d - 1) < suc n * d = omega (arith, some, more) in
    let less : (n + (d - 1)) / d < suc n = div_below (n + (d - 1)) d (suc n) some below in
    omega (arith, less)

-- a segment of a line is no wider than plane 0's
narrower : (a : Accepted) (p k : ℕ) → width_in a.configuration p k ≤ width_in a.configuration 0 k
narrower a p k =
    let c = a.configuration in
    let part = edge (suc k) c.width c.columns - edge k c.width c.columns in
    let less = reduced_less (factor_of c.log2_h p) part in
    let whole = reduced_none part in
    omega (arith, less, whole)

-- the coded bytes of a row of slices, and of all
module _ (payload : List ℕ) (foot columns rows : ℕ) (spans : ℕ → ℕ) (cutting : IsCutting payload foot (columns * rows) spans) where
  abbrev size : ℕ → ℕ → ℕ
  size r k = length (coded_of payload foot spans (r * columns + k))

  slice_fits : (n : ℕ) → n < columns * rows → length (coded_of payload foot spans n) + foot + spans n ≤ spans (suc n)
  slice_fits n inside =
      let sized = cutting.each n inside in
      let long = length-take (spans (suc n) - foot - spans n) (drop (spans n) payload) in
      omega (arith, sized, long)

  row_fits : (r from count : ℕ) → r < rows → from + count ≤ columns → total (size r) (range_with_len from count) + foot * count + spans (r * columns + from) ≤ spans (r * columns + (from + count))
  row_fits r from zero inside fits =
      let same : spans (r * columns + (from + 0)) ≡ spans (r * columns + from) = ap (λ n. spans (r * columns + n)) (let none : from + 0 ≡ from = omega arith in none) in
      omega (arith, same)
  row_fits r from (suc count) inside fits =
      let here = slice_fits (r * columns + from) (number_inside r from rows columns inside (omega (arith, fits))) in
      let rest = row_fits r (from + 1) count inside (omega (arith, fits)) in
      let next : spans (suc (r * columns + from)) ≡ spans (r * columns + (from + 1)) = ap spans (let one : suc (r * columns + from) ≡ r * columns + (from + 1) = omega arith in one) in
      let end : spans (r * columns + (from + 1 + count)) ≡ spans (r * columns + (from + suc count)) = ap (λ n. spans (r * columns + n)) (let all : from + 1 + count ≡ from + suc count = omega arith in all) in
      omega (arith, here, rest, next, end)

  rows_fit : (from count : ℕ) → from + count ≤ rows →
      total (λ r. total (size r) (range_with_len 0 columns)) (range_with_len from count) + foot * columns * count + spans (from * columns) ≤ spans ((from + count) * columns)
  rows_fit from zero fits =
      let same : spans ((from + 0) * columns) ≡ spans (from * columns) = ap (λ n. spans (n * columns)) (let none : from + 0 ≡ from = omega arith in none) in
      omega (arith, same)
  rows_fit from (suc count) fits =
      let here = row_fits from 0 columns (omega (arith, fits)) (omega arith) in
      let rest = rows_fit (from + 1) count (omega (arith, fits)) in
      let first : spans (from * columns + 0) ≡ spans (from * columns) = ap spans (let none : from * columns + 0 ≡ from * columns = omega arith in none) in
      let next : spans (from * columns + (0 + columns)) ≡ spans ((from + 1) * columns) = ap spans (let one : from * columns + (0 + columns) ≡ (from + 1) * columns = omega arith in one) in
      let end : spans ((from + 1 + count) * columns) ≡ spans ((from + suc count) * columns) = ap (λ n. spans (n * columns)) (let all : from + 1 + count ≡ from + suc count = omega arith in all) in
      omega (arith, here, rest, first, next, end)

  pub all_fit : total (λ r. total (size r) (range_with_len 0 columns)) (range_with_len 0 rows) ≤ length payload - columns * rows * foot
  all_fit =
      let all = rows_fit 0 rows (omega arith) in
      let first : spans (0 * columns) ≡ 0 = ap spans (let none : 0 * columns ≡ 0 = omega arith in none) ∙ cutting.first in
      let last : spans ((0 + rows) * columns) ≡ length payload = ap spans (let turned : (0 + rows) * columns ≡ columns * rows = omega arith in turned) ∙ cutting.last in
      let feet : foot * columns * rows ≡ columns * rows * foot = omega arith in
      omega (arith, all, first, last, feet)

module _ (a : Accepted) (coded : ℕ → List ℕ) (laws : StepLaws a) (each : ℕ) (renormalises : (past : List Step) → length past < each * (renormalisations_of a.table past + 1)) (wide : a.profile ≡ profile.Wide) where
  -- the bounds of a slice, and of the slices of a row
  abbrev pub slice_most : ℕ → ℕ → ℕ
  slice_most r k = each * length (coded (slice_number a.configuration r k)) + max each 169 + 63 * width_in a.configuration 0 k

  abbrev pub Within : ℕ → ℕ → Slice → Type 0
  Within r k q = IsWithin a (coded (slice_number a.configuration r k)) q.past

  few_within : (bytes : List ℕ) (past : List Step) → IsWithin a bytes past → length past ≤ each * length bytes + max each 169
  few_within bytes past within =
      let few = within.few wide in
      let less = renormalises past in
      let most = mul-le-mul_left {m = renormalisations_of a.table past + 1} {n = length bytes + 1} each (omega (arith, few)) in
      let least = le-max_left each 169 in
      omega (arith, less, most, least)

  few_more : (r k p : ℕ) (q : Slice) (steps : List Step) → Within r k q → length steps ≤ 63 * width_in a.configuration p k → length (q.past ++ steps) ≤ slice_most r k
  few_more r k p q steps within most =
      let few = few_within (coded (slice_number a.configuration r k)) q.past within in
      let sum = length-append q.past steps in
      let less = narrower a p k in
      omega (arith, few, sum, most, less)

  pub slice_laws : SliceLaws a coded slice_most Within
  slice_laws = record {
    few = λ r k q within. let few = few_within (coded (slice_number a.configuration r k)) q.past within in omega (arith, few);
    opened = λ r k h r_inside inside codes within. within;
    closed = λ r k info f steps r_inside inside refuses.
        let few = reason_short a coded laws info (slice_number a.configuration r k) f steps (number_inside r k a.configuration.rows a.configuration.columns r_inside inside) refuses in
        let least = le-max_right each 169 in
        omega (arith, few, least);
    read = λ r k p y q qs row inside few below has reads within. within;
    overread = λ r k p y q qs row inside few below has reads.
        few_more r k p q (steps_of_line a coded q p (width_in a.configuration p k) y qs row) has (line_few a coded laws (slice_number a.configuration r k) p (width_in a.configuration p k) y q qs row reads);
    stopped = λ r k p y q qs row inside few below has stops.
        few_more r k p q (steps_of_stop a coded q p (width_in a.configuration p k) y qs row) has (stop_few a coded laws (slice_number a.configuration r k) p (width_in a.configuration p k) y q qs row stops);
  }

  pub few_by_slices : (is_rct a.configuration.colour ≡ true → (p r : ℕ) → lines_down a.configuration p r ≡ lines_down a.configuration 0 r) → (t : State) →
      Reaches (StepsBy a coded) (FaultsWith a coded) (at_first a.configuration) (events_of a.configuration) t →
      decisions_in t ≤ total (λ r. total (slice_most r) (range_with_len 0 a.configuration.columns)) (range_with_len 0 a.configuration.rows)
  few_by_slices same t h = few_in a coded slice_most Within slice_laws t (frame_reached a coded slice_most Within slice_laws same t h)

-- the bounds of all slices of a payload
module _ (a : Accepted) (payload : List ℕ) (spans : ℕ → ℕ) (each most : ℕ) (tiles_h : (p : ℕ) → Tiles (across (division_of a.configuration) p))
    (cutting : IsCutting payload (foot_length a.configuration.ec) (a.configuration.columns * a.configuration.rows) spans) where
  abbrev sizes : ℕ → ℕ → ℕ
  sizes r k = length (coded_of payload (foot_length a.configuration.ec) spans (slice_number a.configuration r k))

  abbrev all_columns : List ℕ
  all_columns = range_with_len 0 a.configuration.columns

  abbrev all_rows : List ℕ
  all_rows = range_with_len 0 a.configuration.rows

  across_row : total (λ k. width_in a.configuration 0 k) all_columns ≡ a.configuration.width
  across_row = total_parts (across (division_of a.configuration) 0) (tiles_h 0) ((tiles_h 0).flat refl) ∙ reduced_none a.configuration.width

  row_sum : (r : ℕ) → total (λ k. each * sizes r k + most + 63 * width_in a.configuration 0 k) all_columns ≡ each * total (sizes r) all_columns + (most * a.configuration.columns + 63 * a.configuration.width)
  row_sum r =
      let sum = total_add (λ k. each * sizes r k + most) (λ k. 63 * width_in a.configuration 0 k) all_columns in
      let front = total_add (λ k. each * sizes r k) (λ k. most) all_columns in
      let one = total_scaled each (sizes r) all_columns in
      let two = total_each most 0 a.configuration.columns in
      let three = total_scaled 63 (λ k. width_in a.configuration 0 k) all_columns in
      let wide = across_row in
      omega (arith, sum, front, one, two, three, wide)

  pub slices_sum : total (λ r. total (λ k. each * sizes r k + most + 63 * width_in a.configuration 0 k) all_columns) all_rows
      ≤ each * coded_bytes a.configuration payload + most * (a.configuration.columns * a.configuration.rows) + 63 * (a.configuration.width * a.configuration.rows)
  slices_sum =
      let c = a.configuration in
      let beside = most * c.columns + 63 * c.width in
      let rows = total_same (λ r. total (λ k. each * sizes r k + most + 63 * width_in c 0 k) all_columns) (λ r. each * total (sizes r) all_columns + beside) all_rows row_sum in
      let sum = total_add (λ r. each * total (sizes r) all_columns) (λ r. beside) all_rows in
      let one = total_scaled each (λ r. total (sizes r) all_columns) all_rows in
      let two = total_each beside 0 c.rows in
      let fit = all_fit payload (foot_length c.ec) c.columns c.rows spans cutting in
      let scaled = mul-le-mul_left {m = total (λ r. total (sizes r) all_columns) all_rows} {n = coded_bytes c payload} each fit in
      let slices : most * c.columns * c.rows ≡ most * (c.columns * c.rows) = mul_assoc most c.columns c.rows in
      let lines : 63 * c.width * c.rows ≡ 63 * (c.width * c.rows) = mul_assoc 63 c.width c.rows in
      let parts : beside * c.rows ≡ most * c.columns * c.rows + 63 * c.width * c.rows = omega arith in
      omega (arith, rows, sum, one, two, scaled, slices, lines, parts)
