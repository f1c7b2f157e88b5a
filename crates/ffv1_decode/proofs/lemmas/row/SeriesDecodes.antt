-- The lines of planes that are coded together are decoded one after the other: their run.
use Rattle.std.proofs.Common.{◌≡◌, refl, ℕ, suc, ◌+◌, ◌-◌, ◌*◌, ◌<◌, ◌≤◌, ◌⊎◌, inl, inr, Bool, true, false, List, [], ◌∷◌, ◌++◌, length, take, replicate, ap, sym, subst, ◌∙◌, arith, append_assoc}
use Rattle.std.specs.List.{flat_map, range_with_len}
use Rattle.std.proofs.lemmas.List.{take-replicate, drop-replicate}
use Rattle.ffv1_wire.specs.Runs.{LineStep, Grows}
use Rattle.ffv1_record.specs.Configuration.{Configuration, is_rct}
use Rattle.ffv1_record.specs.Accepted.{Accepted}
use Rattle.ffv1_line.specs.Cell.{Rolls}
use Rattle.ffv1_slice.specs.Grid.{division_of, across, down, coded_of, factor_of, shared_of}
use Rattle.ffv1_decode.specs.declared.column.Column.{Column}
use Rattle.ffv1_frame.specs.declared.fault.FrameFault.{FrameFault}
use Rattle.ffv1_frame.specs.Picture.{plane}
use Rattle.ffv1_frame.specs.Runs.{Runs}
use Rattle.ffv1_decode.specs.Internal.Places.{AreParts}
use Rattle.ffv1_frame.specs.Order.{Event, line_events, lines_down}
use Rattle.ffv1_frame.specs.Order.Event.{Hand}
use Rattle.ffv1_frame.specs.Decoding.{State, StepsBy, FaultsWith, slice_at, left_of, width_in}
use Rattle.ffv1_frame.specs.Windows.{window}
use Rattle.ffv1_decode.specs.Internal.Tied.{TiedColumns, TiedPlanes, part_of}
use Rattle.ffv1_decode.specs.Internal.Tied.{row_slices, rolling_lines, plane_group}
use Rattle.ffv1_decode.specs.Internal.Progress.{FailsIn, LineDecoded, LinesDecoded, SeriesDecoded, SeriesKept}
use Rattle.ffv1_decode.specs.Internal.Shared.{IsLast}
use Rattle.ffv1_decode.specs.Internal.Finished.{IsTogether}
use Rattle.ffv1_decode.proofs.lemmas.parts.PartPlaces.{inside}
use Rattle.ffv1_frame.proofs.lemmas.Sizes.{part_apart}
use Rattle.ffv1_decode.proofs.lemmas.finish.LineFinished.{together_one}
use Rattle.ffv1_frame.proofs.lemmas.picture.PlaneWidths.{factor_none}
use Rattle.ffv1_decode.proofs.lemmas.Ranges.{joined_more, rest_of}
use Rattle.ffv1_decode.proofs.lemmas.RunsInRow.{runs_append, stops_later, stops_sooner}

-- planes that are coded together have as many lines in a row
lines_in_one : (c : Configuration) (first i r : ℕ) → c.log2_v ≡ 0 → lines_down c (first + i) r ≡ lines_down c first r
lines_in_one c first i r none =
    let f : ℕ → ℕ = λ l. coded_of (record { size = c.height; count = c.rows; log2 = l }) r in
    ap (λ l. f (factor_of l (first + i))) none ∙ ap f (factor_none (first + i) ∙ sym (factor_none first)) ∙ ap (λ l. f (factor_of l first)) (sym none)

by_colour : (b : Bool) → (b ≡ true) ⊎ (b ≡ false)
by_colour true = inl refl
by_colour false = inr refl

pub lines_alike : (c : Configuration) (first count i r : ℕ) → IsTogether c first count → (is_rct c.colour ≡ true → c.log2_v ≡ 0) → i < count → lines_down c (first + i) r ≡ lines_down c first r
lines_alike c first count i r together none less = elim (by_colour (is_rct c.colour)) [
  | inl e ↦ lines_in_one c first i r (none e)
  | inr e ↦
      let one = together_one c first count e together in
      let at : first + i ≡ first = omega (arith, less, one.0) in
      ap (λ p. lines_down c p r) at
]

-- and share as many with the row above
pub shared_alike : (c : Configuration) (first count i r : ℕ) → IsTogether c first count → (is_rct c.colour ≡ true → c.log2_v ≡ 0) → i < count → shared_of (down (division_of c) (first + i)) r ≡ shared_of (down (division_of c) first) r
shared_alike c first count i r together none less = elim (by_colour (is_rct c.colour)) [
  | inl e ↦
      let f : ℕ → ℕ = λ l. shared_of (record { size = c.height; count = c.rows; log2 = l }) r in
      ap (λ l. f (factor_of l (first + i))) (none e) ∙ ap f (factor_none (first + i) ∙ sym (factor_none first)) ∙ ap (λ l. f (factor_of l first)) (sym (none e))
  | inr e ↦
      let one = together_one c first count e together in
      let at : first + i ≡ first = omega (arith, less, one.0) in
      ap (λ p. shared_of (down (division_of c) p) r) at
]

-- lines of which nothing is read: the third may hold anything
pub planes_any : (c : Configuration) (first count y : ℕ) (two one cur any : List ℕ) (s : State) → TiedPlanes c (plane_group first count) 0 0 y (rolling_lines two one cur) s → TiedPlanes c (plane_group first count) 0 0 y (rolling_lines two one any) s
planes_any c first count y two one cur any s planes = record {
  done = λ j less. absurd (omega (arith, less));
  todo = λ j from less. let tied = planes.todo j from less in record { unread = tied.unread; read = λ k upto h. absurd (omega (arith, upto)) };
}

zero_window : (at w m : ℕ) → at + w ≤ m → window at w (replicate {A = ℕ} m 0) ≡ replicate w 0
zero_window at w m fits = ap (take w) (drop-replicate at m 0) ∙ take-replicate w (m - at) 0 (omega (arith, fits))

module _ {S : Type 0} (takes refuses : LineStep S) (a : Accepted) (coded : ℕ → List ℕ) (initial : S) where
  module _ (r : ℕ) (columns : List Column) (f : FrameFault) (now : S) (s : State) where
    pub fails_sooner : (xs ys : List Event) → FailsIn takes refuses a coded initial r columns xs f now s → FailsIn takes refuses a coded initial r columns (xs ++ ys) f now s
    fails_sooner xs ys fails = elim fails [
      | inl fault ↦ inl (record {
        state = fault.state;
        stops = stops_sooner (StepsBy a coded) (FaultsWith a coded) s fault.state f xs ys fault.stops;
        told = fault.told;
        done = fault.done;
        grows = fault.grows;
      })
      | inr refused ↦ inr (record {
        state = refused.state;
        number = refused.number;
        plane = refused.plane;
        line = refused.line;
        before = refused.before;
        after = refused.after ++ ys;
        parts = ap (λ z. z ++ ys) refused.parts ∙ append_assoc refused.before (Hand r refused.number refused.plane refused.line ∷ refused.after) ys;
        runs = refused.runs;
        told = refused.told;
        done = refused.done;
        is = refused.is;
        between = refused.between;
        grows = refused.grows;
        last = refused.last;
      })
    ]

    pub fails_later : (m : State) (xs ys : List Event) → Runs (StepsBy a coded) s xs m → m.done ≡ s.done → FailsIn takes refuses a coded initial r columns ys f now m → FailsIn takes refuses a coded initial r columns (xs ++ ys) f now s
    fails_later m xs ys runs same fails = elim fails [
      | inl fault ↦ inl (record {
        state = fault.state;
        stops = stops_later (StepsBy a coded) (FaultsWith a coded) s m fault.state f xs ys runs fault.stops;
        told = fault.told;
        done = fault.done ∙ same;
        grows = fault.grows;
      })
      | inr refused ↦ inr (record {
        state = refused.state;
        number = refused.number;
        plane = refused.plane;
        line = refused.line;
        before = xs ++ refused.before;
        after = refused.after;
        parts = ap (λ z. xs ++ z) refused.parts ∙ sym (append_assoc xs refused.before (Hand r refused.number refused.plane refused.line ∷ refused.after));
        runs = runs_append (StepsBy a coded) s m refused.state xs refused.before runs refused.runs;
        told = refused.told;
        done = refused.done ∙ same;
        is = refused.is;
        between = refused.between;
        grows = refused.grows;
        last = refused.last;
      })
    ]

  module _ (r : ℕ) (payload : List ℕ) (first count : ℕ) (s : State) where
    abbrev next : ℕ
    next = first + count

    abbrev line : ℕ → List Event
    line = line_events a.configuration r (range_with_len first count)

    pub none_decoded : (columns : List Column) (states : List ℕ) (m : ℕ) (two one : List ℕ) (now : S) → ((width : ℕ) → Rolls width [] (replicate width 0) (replicate width 0) 0) → ((p : ℕ) → AreParts (across (division_of a.configuration) p)) →
        two ≡ replicate m 0 → one ≡ replicate m 0 → m ≡ count * a.configuration.width → TiedColumns a coded r first payload (row_slices columns states) s → Grows takes initial s.lines now →
        LinesDecoded takes refuses a coded initial r next payload first count 0 columns states two one now s
    none_decoded columns states m two one now top parts two_is one_is m_is tied grows = record {
      state = s;
      runs = refl;
      columns_are = record {
        known = tied.known;
        each = λ k h. let t = tied.each k h in record { bytes_are = t.bytes_are; indexes = t.indexes; cells = t.cells; small = t.small; begun = λ p from. t.begun p (omega (arith, from)); stands = t.stands; kept = t.kept };
      };
      planes_are = record {
        done = λ j less. absurd (omega (arith, less));
        todo = λ j from less. record {
          unread = λ k from h.
              let w = width_in a.configuration (first + j) k in
              let all = inside (across (division_of a.configuration) (first + j)) (parts (first + j)) k h in
              let place = part_apart j count a.configuration.width less in
              let fits : j * a.configuration.width + left_of a.configuration (first + j) k + w ≤ m = omega (arith, all, place, m_is) in
              let zeros : (xs : List ℕ) → xs ≡ replicate m 0 → part_of a.configuration (first + j) (j * a.configuration.width) k xs ≡ replicate w 0 =
              λ xs is. ap (window (j * a.configuration.width + left_of a.configuration (first + j) k) w) is ∙ zero_window (j * a.configuration.width + left_of a.configuration (first + j) k) w m fits in
              let begun = (tied.each k h).begun (first + j) (omega arith) in
              let h0 = subst (λ z. Rolls w z (replicate w 0) (replicate w 0) 0) (sym begun) (top w) in
              let h1 = subst (λ z. Rolls w (plane (slice_at s k).cells (first + j)) z (replicate w 0) 0) (sym (zeros two two_is)) h0 in
              subst (λ z. Rolls w (plane (slice_at s k).cells (first + j)) (part_of a.configuration (first + j) (j * a.configuration.width) k two) z 0) (sym (zeros one one_is)) h1;
          read = λ k upto h. absurd (omega (arith, upto));
        };
      };
      kept = record { info = refl; done = refl };
      grows = grows;
    }

    module _ (y : ℕ) (columns : List Column) (states two one : List ℕ) (now : S) (before : LinesDecoded takes refuses a coded initial r next payload first count y columns states two one now s) where
      pub one_decoded : (after : List Column) (new cur : List ℕ) (then : S) → LineDecoded takes refuses a coded initial r next payload first count y after new one cur then before.state →
          LinesDecoded takes refuses a coded initial r next payload first count (suc y) after new one cur then s
      one_decoded after new cur then made =
          let zero_is : 0 + y ≡ y = omega arith in
          record {
            state = made.state;
            runs = subst (λ es. Runs (StepsBy a coded) s es made.state) (sym (joined_more line 0 y ∙ ap (λ k. flat_map line (range_with_len 0 y) ++ line k) zero_is))
                (runs_append (StepsBy a coded) s before.state made.state (flat_map line (range_with_len 0 y)) (line y) before.runs made.runs);
            columns_are = made.columns_are;
            planes_are = made.planes_are;
            kept = record { info = made.kept.info ∙ before.kept.info; done = made.kept.done ∙ before.kept.done };
            grows = made.grows;
          }

      pub one_fails : (height : ℕ) (after : List Column) (f : FrameFault) (then : S) → y < height → FailsIn takes refuses a coded initial r after (line y) f then before.state →
          FailsIn takes refuses a coded initial r after (flat_map line (range_with_len 0 height)) f then s
      one_fails height after f then less fails =
          let left = rest_of line y height less in
          let sooner = fails_sooner r after f then before.state (line y) left.rest fails in
          let later = fails_later r after f then s before.state (flat_map line (range_with_len 0 y)) (line y ++ left.rest) before.runs before.kept.done sooner in
          subst (λ es. FailsIn takes refuses a coded initial r after es f then s) (sym left.is) later

      pub all_decoded : y ≡ lines_down a.configuration first r → SeriesDecoded takes refuses a coded initial r payload first count columns states now s
      all_decoded all = record {
        state = before.state;
        runs = subst (λ n. Runs (StepsBy a coded) s (flat_map line (range_with_len 0 n)) before.state) all before.runs;
        columns_are = before.columns_are;
        kept = before.kept;
        grows = before.grows;
      }

      -- with what is kept of the last of them
      pub all_kept : y ≡ lines_down a.configuration first r → (kept : List ℕ) → (0 < length kept → IsLast a.configuration r first kept before.state) → SeriesKept takes refuses a coded initial r payload first count columns states kept now s
      unfolding all_decoded
      all_kept all kept last = record { decoded = all_decoded all; last = last }
