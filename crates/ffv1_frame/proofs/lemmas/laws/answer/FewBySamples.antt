-- Few decisions are made for the samples that the slices of a picture code, however far decoding
-- has come.
use Rattle.std.proofs.Common.{◌≡◌, ℕ, ◌+◌, ◌*◌, ◌≤◌, true, List, ap, ◌∙◌, arith, mul_assoc}
use Rattle.std.specs.List.{sum_by, range_with_len}
use Rattle.ffv1_record.specs.Configuration.{is_rct}
use Rattle.ffv1_record.specs.Accepted.{Accepted}
use Rattle.ffv1_frame.specs.Picture.{plane_count}
use Rattle.ffv1_frame.specs.Order.{events_of, lines_down}
use Rattle.ffv1_frame.specs.Bounds.{coded_samples, most_decisions}
use Rattle.ffv1_frame.specs.Answer.{decisions_in}
use Rattle.ffv1_frame.specs.Decoding.{State, StepsBy, FaultsWith, at_first, slice_number, width_in, after_line, steps_of_line}
use Rattle.ffv1_frame.proofs.lemmas.laws.decoding.Machines.{Reaches}
use Rattle.ffv1_frame.proofs.lemmas.laws.decoding.FromCoded.{number_inside}
use Rattle.ffv1_frame.proofs.lemmas.Totals.{total, total_is, total_same, total_add, total_scaled, total_each, total_swapped}
use Rattle.ffv1_frame.proofs.lemmas.laws.answer.FewDecisions.{StepLaws, opening_most, reason_few, capacity, HasFew, few_in_all, few_opened, few_read, few_stopped}
use Rattle.ffv1_frame.proofs.lemmas.laws.answer.FewInFrame.{SliceLaws, few_in, frame_reached}

module _ (a : Accepted) (coded : ℕ → List ℕ) (laws : StepLaws a) where
  -- the bounds of a slice, and of the slices of a row
  abbrev slice_most : ℕ → ℕ → ℕ
  slice_most r k = opening_most a.configuration + 63 * capacity a coded laws r k

  abbrev row_total : ℕ → ℕ
  row_total r = total (slice_most r) (range_with_len 0 a.configuration.columns)

  slice_laws : SliceLaws a coded slice_most (HasFew a coded laws)
  slice_laws = record {
    few = few_in_all a coded laws;
    opened = λ r k h r_inside inside codes within. few_opened a coded laws r k h (number_inside r k a.configuration.rows a.configuration.columns r_inside inside) codes.head;
    closed = λ r k info f steps r_inside inside refuses.
        let few = reason_few a coded laws info (slice_number a.configuration r k) f steps (number_inside r k a.configuration.rows a.configuration.columns r_inside inside) refuses in
        omega (arith, few);
    read = λ r k p y q qs row inside few below has reads within. few_read a coded laws r k p y q qs row few below has reads;
    overread = λ r k p y q qs row inside few below has reads.
        few_in_all a coded laws r k (after_line a coded q p (width_in a.configuration p k) y qs row) (few_read a coded laws r k p y q qs row few below has reads);
    stopped = λ r k p y q qs row inside few below has stops. few_stopped a coded laws r k p y q qs row few below has stops;
  }

  abbrev pub all_planes : List ℕ
  all_planes = range_with_len 0 (plane_count a.configuration)

  abbrev pub all_columns : List ℕ
  all_columns = range_with_len 0 a.configuration.columns

  abbrev pub all_rows : List ℕ
  all_rows = range_with_len 0 a.configuration.rows

  -- how wide the cells of a plane are together, and how high
  abbrev pub wide : ℕ → ℕ
  wide p = total (width_in a.configuration p) (range_with_len 0 a.configuration.columns)

  abbrev pub high : ℕ → ℕ
  high p = total (lines_down a.configuration p) (range_with_len 0 a.configuration.rows)

  -- the samples of the slices of a row, plane by plane
  row_samples : (r : ℕ) → total (capacity a coded laws r) all_columns ≡ total (λ p. wide p * lines_down a.configuration p r) all_planes
  row_samples r =
      let c = a.configuration in
      total_swapped (λ k p. width_in c p k * lines_down c p r) all_columns all_planes
      ∙ total_same (λ p. total (λ k. width_in c p k * lines_down c p r) all_columns) (λ p. wide p * lines_down c p r) all_planes (λ p.
      total_same (λ k. width_in c p k * lines_down c p r) (λ k. lines_down c p r * width_in c p k) all_columns (λ k. let turned : width_in c p k * lines_down c p r ≡ lines_down c p r * width_in c p k = omega arith in turned)
      ∙ total_scaled (lines_down c p r) (width_in c p) all_columns
      ∙ (let turned : lines_down c p r * wide p ≡ wide p * lines_down c p r = omega arith in turned))

  all_samples : total (λ r. total (capacity a coded laws r) all_columns) all_rows ≡ coded_samples a.configuration
  all_samples =
      let c = a.configuration in
      let size : ℕ → ℕ = λ p. sum_by (width_in c p) all_columns * sum_by (lines_down c p) all_rows in
      total_same (λ r. total (capacity a coded laws r) all_columns) (λ r. total (λ p. wide p * lines_down c p r) all_planes) all_rows row_samples
      ∙ total_swapped (λ r p. wide p * lines_down c p r) all_rows all_planes
      ∙ total_same (λ p. total (λ r. wide p * lines_down c p r) all_rows) (λ p. wide p * high p) all_planes (λ p. total_scaled (wide p) (lines_down c p) all_rows)
      ∙ total_same (λ p. wide p * high p) size all_planes (λ p.
      ap (λ n. n * high p) (total_is (width_in c p) all_columns) ∙ ap (λ n. sum_by (width_in c p) all_columns * n) (total_is (lines_down c p) all_rows))
      ∙ total_is size all_planes

  row_sum : (r : ℕ) → row_total r ≡ opening_most a.configuration * a.configuration.columns + 63 * total (capacity a coded laws r) all_columns
  row_sum r =
      let sum = total_add (λ k. opening_most a.configuration) (λ k. 63 * capacity a coded laws r k) all_columns in
      let first = total_each (opening_most a.configuration) 0 a.configuration.columns in
      let second = total_scaled 63 (capacity a coded laws r) all_columns in
      omega (arith, sum, first, second)

  whole_most : total row_total all_rows ≡ most_decisions a.configuration
  whole_most =
      let c = a.configuration in
      let rows = total_same row_total (λ r. opening_most c * c.columns + 63 * total (capacity a coded laws r) all_columns) all_rows row_sum in
      let sum = total_add (λ r. opening_most c * c.columns) (λ r. 63 * total (capacity a coded laws r) all_columns) all_rows in
      let first = total_each (opening_most c * c.columns) 0 c.rows in
      let second = total_scaled 63 (λ r. total (capacity a coded laws r) all_columns) all_rows in
      let samples = all_samples in
      let regrouped : opening_most c * c.columns * c.rows ≡ opening_most c * (c.columns * c.rows) = mul_assoc (opening_most c) c.columns c.rows in
      omega (arith, rows, sum, first, second, samples, regrouped)

  pub few_by_samples : (is_rct a.configuration.colour ≡ true → (p r : ℕ) → lines_down a.configuration p r ≡ lines_down a.configuration 0 r) → (t : State) →
      Reaches (StepsBy a coded) (FaultsWith a coded) (at_first a.configuration) (events_of a.configuration) t → decisions_in t ≤ most_decisions a.configuration
  few_by_samples same t h =
      let few = few_in a coded slice_most (HasFew a coded laws) slice_laws t (frame_reached a coded slice_most (HasFew a coded laws) slice_laws same t h) in
      let most = whole_most in
      omega (arith, few, most)
