-- A line of several planes is read column by column, and in each column plane by plane: its run.
use Rattle.std.proofs.Common.{◌≡◌, ◌≢◌, refl, ℕ, suc, ◌+◌, ◌-◌, ◌*◌, ◌<◌, ◌≤◌, ◌⊎◌, inl, inr, List, [], ◌∷◌, ◌++◌, length, get_or, slice_index, ap, sym, subst, ◌∙◌, arith, append_assoc, append-nil}
use Rattle.std.specs.List.{flat_map, range_with_len}
use Rattle.std.proofs.lemmas.Bool.{cases_eq, cases_lt}
use Rattle.ffv1_record.specs.Configuration.{Configuration}
use Rattle.ffv1_record.specs.Accepted.{Accepted}
use Rattle.ffv1_line.specs.Cell.{Rolls}
use Rattle.ffv1_slice.specs.Grid.{division_of, across}
use Rattle.ffv1_decode.specs.declared.column.Column.{Column}
use Rattle.ffv1_frame.specs.declared.fault.FrameFault.{FrameFault}
use Rattle.ffv1_frame.specs.Picture.{plane}
use Rattle.ffv1_frame.specs.Runs.{Runs, Stops}
use Rattle.ffv1_decode.specs.Internal.Places.{AreParts}
use Rattle.ffv1_frame.specs.Order.{Event, column_events, lines_down}
use Rattle.ffv1_frame.specs.Order.Event.{Read}
use Rattle.ffv1_frame.specs.Decoding.{State, StepsBy, FaultsWith, slice_at, slice_number, unread, left_of, width_in}
use Rattle.ffv1_frame.specs.Windows.{window}
use Rattle.ffv1_decode.specs.Internal.Tied.{TiedColumns, TiedLine, TiedKept, TiedPlanes, StepMade, PlanesRead, Stopped, reads_upto, part_of}
use Rattle.ffv1_decode.specs.Internal.Tied.{row_slices, rolling_lines, plane_group}
use Rattle.ffv1_frame.proofs.lemmas.Sizes.{part_apart}
use Rattle.ffv1_decode.proofs.lemmas.parts.PartPlaces.{inside}
use Rattle.ffv1_decode.proofs.lemmas.Ranges.{mapped_more, joined_more, rest_of, mapped_rest}
use Rattle.ffv1_decode.proofs.lemmas.RunsInRow.{runs_append, runs_one, stops_later, stops_sooner}

-- what is read of one plane leaves the line of another
pub line_other : (c : Configuration) (p offset n y : ℕ) (two one cur new : List ℕ) (s t : State) →
    ((k : ℕ) → plane (slice_at t k).cells p ≡ plane (slice_at s k).cells p) → ((k : ℕ) → k < c.columns → part_of c p offset k new ≡ part_of c p offset k cur) →
    TiedLine c p offset n y (rolling_lines two one cur) s → TiedLine c p offset n y (rolling_lines two one new) t
line_other c p offset n y two one cur new s t cells parts tied = record {
  unread = λ k from h. subst (λ z. Rolls (width_in c p k) z (part_of c p offset k two) (part_of c p offset k one) y) (sym (cells k)) (tied.unread k from h);
  read = λ k upto h.
      let one_is = subst (λ z. Rolls (width_in c p k) z (part_of c p offset k one) (part_of c p offset k cur) (suc y)) (sym (cells k)) (tied.read k upto h) in
      subst (λ z. Rolls (width_in c p k) (plane (slice_at t k).cells p) (part_of c p offset k one) z (suc y)) (sym (parts k h)) one_is;
}

-- what is kept is of the rows that are done
pub kept_stays : (c : Configuration) (r p y : ℕ) (kept : List ℕ) (s t : State) → t.done ≡ s.done → TiedKept c r p y kept s → TiedKept c r p y kept t
kept_stays c r p y kept s t done tied = λ shared k x inside small.
    tied shared k x inside small
    ∙ ap (λ d. slice_index (plane (get_or d (slice_number c (r - 1) k) unread).cells p) ((lines_down c p (r - 1) - 1) * width_in c p k + x)) (sym done)

module _ (a : Accepted) (coded : ℕ → List ℕ) (r next : ℕ) (payload : List ℕ) (first count y : ℕ) where
  pub upto_more : (k i : ℕ) → reads_upto a coded r next payload first count y k (suc i) ≡ reads_upto a coded r next payload first count y k i ++ (Read r k (first + i) y ∷ [])
  upto_more k i =
      let before = flat_map (column_events r (range_with_len first count) y) (range_with_len 0 k) in
      ap (λ z. before ++ z) (mapped_more (λ p. Read r k p y) first i) ∙ sym (append_assoc before (column_events r (range_with_len first i) y k) (Read r k (first + i) y ∷ []))

  pub upto_column : (k : ℕ) → reads_upto a coded r next payload first count y k count ≡ reads_upto a coded r next payload first count y (suc k) 0
  upto_column k =
      let f : ℕ → List Event = column_events r (range_with_len first count) y in
      let zero_is : 0 + k ≡ k = omega arith in
      sym (append-nil (flat_map f (range_with_len 0 (suc k))) ∙ joined_more f 0 k ∙ ap (λ n. flat_map f (range_with_len 0 k) ++ f n) zero_is)

  pub upto_all : (many : ℕ) → reads_upto a coded r next payload first count y many 0 ≡ flat_map (column_events r (range_with_len first count) y) (range_with_len 0 many)
  upto_all many = append-nil (flat_map (column_events r (range_with_len first count) y) (range_with_len 0 many))

  -- what is left of the line
  pub record Left (k i many : ℕ) : Type 0 where
    pub rest : List Event
    pub is : flat_map (column_events r (range_with_len first count) y) (range_with_len 0 many) ≡ reads_upto a coded r next payload first count y k i ++ (Read r k (first + i) y ∷ rest)

  pub left_line : (k i many : ℕ) → k < many → i < count → Left k i many
  left_line k i many less few =
      let f : ℕ → List Event = column_events r (range_with_len first count) y in
      let all = rest_of f k many less in
      let column = mapped_rest (λ p. Read r k p y) first i count few in
      let before = flat_map f (range_with_len 0 k) in
      record {
        rest = column.rest ++ all.rest;
        is = all.is ∙ ap (λ z. before ++ (z ++ all.rest)) column.is ∙ ap (λ z. before ++ z) (append_assoc (column_events r (range_with_len first i) y k) (Read r k (first + i) y ∷ column.rest) all.rest)
            ∙ sym (append_assoc before (column_events r (range_with_len first i) y k) (Read r k (first + i) y ∷ (column.rest ++ all.rest)));
      }

  module _ (s : State) (two one : List ℕ) where
    pub none_read : (columns : List Column) (states cur : List ℕ) → TiedColumns a coded r next payload (row_slices columns states) s → TiedPlanes a.configuration (plane_group first count) 0 0 y (rolling_lines two one cur) s →
        PlanesRead a coded r next payload first count y 0 0 columns states two one cur s
    none_read columns states cur tied planes = record { state = s; runs = refl; columns_are = tied; planes_are = planes; same = refl }

    pub plane_more : (k i : ℕ) (columns after : List Column) (states new cur line : List ℕ) → i < count → k < a.configuration.columns →
        ((p : ℕ) → AreParts (across (division_of a.configuration) p)) → count * a.configuration.width ≤ length cur →
        ((b n : ℕ) → b + n ≤ length cur → (b + n ≤ i * a.configuration.width) ⊎ (i * a.configuration.width + a.configuration.width ≤ b) → window b n line ≡ window b n cur) →
        (before : PlanesRead a coded r next payload first count y k i columns states two one cur s) →
        StepMade a coded r next payload (first + i) (i * a.configuration.width) y k after new two one line before.state →
        PlanesRead a coded r next payload first count y k (suc i) after new two one line s
    plane_more k i columns after states new cur line few inside_k parts room beside before made =
        let m = before.state in
        let t = made.state in
        let w = a.configuration.width in
        let other : (j n : ℕ) → j ≢ i → j < count → TiedLine a.configuration (first + j) (j * w) n y (rolling_lines two one cur) m → TiedLine a.configuration (first + j) (j * w) n y (rolling_lines two one line) t =
        λ j n apart less tied.
        let place = part_apart j count w less in
        let ps : first + j ≢ first + i = omega (arith, apart) in
        line_other a.configuration (first + j) (j * w) n y two one cur line m t (λ x. made.others x (first + j) ps)
        (λ x h.
        let all = inside (across (division_of a.configuration) (first + j)) (parts (first + j)) x h in
        let sides : (j * w + left_of a.configuration (first + j) x + width_in a.configuration (first + j) x ≤ i * w) ⊎ (i * w + w ≤ j * w + left_of a.configuration (first + j) x) = elim (cases_lt j i) [
          | inl sooner ↦ let part = part_apart j i w sooner in inl (omega (arith, part, all))
          | inr over ↦ let later : i < j = omega (arith, over, apart) in let part = part_apart i j w later in inr (omega (arith, part))
        ] in
        beside (j * w + left_of a.configuration (first + j) x) (width_in a.configuration (first + j) x) (omega (arith, place, all, room)) sides)
        tied in
        record {
          state = t;
          runs = subst (λ es. Runs (StepsBy a coded) s es t) (sym (upto_more k i))
              (runs_append (StepsBy a coded) s m t (reads_upto a coded r next payload first count y k i) (Read r k (first + i) y ∷ []) before.runs (runs_one (StepsBy a coded) m t (Read r k (first + i) y) made.step));
          columns_are = made.columns_are;
          planes_are = record {
            done = λ j less. elim (cases_eq j i) [
              | inl here ↦ subst (λ z. TiedLine a.configuration (first + z) (z * w) (suc k) y (rolling_lines two one line) t) (sym here) made.line_is
              | inr apart ↦ other j (suc k) apart (omega (arith, less, few)) (before.planes_are.done j (omega (arith, less, apart)))
            ];
            todo = λ j from less. let apart : j ≢ i = omega (arith, from) in other j k apart less (before.planes_are.todo j (omega (arith, from)) less);
          };
          same = made.same ∙ ap (λ (z : State). record z { columns = t.columns }) before.same;
        }

    pub column_done : (k : ℕ) (columns : List Column) (states cur : List ℕ) → PlanesRead a coded r next payload first count y k count columns states two one cur s →
        PlanesRead a coded r next payload first count y (suc k) 0 columns states two one cur s
    column_done k columns states cur before = record {
      state = before.state;
      runs = subst (λ es. Runs (StepsBy a coded) s es before.state) (upto_column k) before.runs;
      columns_are = before.columns_are;
      planes_are = record {
        done = λ j less. absurd (omega (arith, less));
        todo = λ j from less. before.planes_are.done j less;
      };
      same = before.same;
    }

    pub planes_stopped : (k i : ℕ) (columns after : List Column) (states cur : List ℕ) (f : FrameFault) (many : ℕ) → i < count → k < many →
        (before : PlanesRead a coded r next payload first count y k i columns states two one cur s) → Stopped a coded after (Read r k (first + i) y ∷ []) f before.state →
        Stopped a coded after (flat_map (column_events r (range_with_len first count) y) (range_with_len 0 many)) f s
    planes_stopped k i columns after states cur f many few inside_k before made =
        let event = Read r k (first + i) y in
        let left = left_line k i many inside_k few in
        let stop = stops_sooner (StepsBy a coded) (FaultsWith a coded) before.state made.state f (event ∷ []) left.rest made.stops in
        record {
          state = made.state;
          stops = subst (λ es. Stops (StepsBy a coded) (FaultsWith a coded) s es f made.state) (sym left.is)
              (stops_later (StepsBy a coded) (FaultsWith a coded) s before.state made.state f (reads_upto a coded r next payload first count y k i) (event ∷ left.rest) before.runs stop);
          told = made.told;
          lines = made.lines ∙ ap (λ (z : State). z.lines) before.same;
          done = made.done ∙ ap (λ (z : State). z.done) before.same;
        }
