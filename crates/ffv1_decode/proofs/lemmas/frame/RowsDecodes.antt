-- Rows of slices are decoded one below the other: their run, and the answer.
use Rattle.std.proofs.Common.{◌≡◌, refl, ℕ, zero, suc, ◌+◌, ◌<◌, ◌⊎◌, inl, inr, Option, Some, None, List, [], ◌∷◌, ◌++◌, map, length, get_or, replicate, ap, sym, subst, ◌∙◌, arith, append_assoc, length-append}
use Rattle.std.specs.List.{flat_map, range_with_len}
use Rattle.std.proofs.lemmas.List.{length-replicate}
use Rattle.ffv1_wire.specs.Runs.{LineStep}
use Rattle.ffv1_range.specs.declared.tally.Tally.{Tally}
use Rattle.ffv1_range.specs.Table.{Table}
use Rattle.ffv1_range.specs.Symbols.{Step}
use Rattle.ffv1_range.specs.Counts.{ones_in, zeros_in}
use Rattle.ffv1_record.specs.Accepted.{Accepted}
use Rattle.ffv1_decode.specs.declared.column.Column.{Column}
use Rattle.ffv1_frame.specs.declared.fault.FrameFault.{FrameFault}
use Rattle.ffv1_frame.specs.SliceList.{Said}
use Rattle.ffv1_frame.specs.Runs.{Runs, Stops}
use Rattle.ffv1_frame.specs.Order.{Event, row_events, events_of, series_of, series_events}
use Rattle.ffv1_frame.specs.Order.Event.{Open, Hand, Close}
use Rattle.ffv1_frame.specs.Decoding.{State, Slice, StepsBy, FaultsWith, at_first, unread}
use Rattle.ffv1_frame.specs.Answer.{Ends, Faults, SinkRefuses, HasDecided, no_tally}
use Rattle.ffv1_decode.specs.Internal.Tied.{AreTold, TiedKept}
use Rattle.ffv1_decode.specs.Internal.Shared.{kept_line}
use Rattle.ffv1_decode.specs.Internal.Progress.{FailsIn}
use Rattle.ffv1_decode.specs.Internal.Tallies.{tally_over}
use Rattle.ffv1_decode.specs.Internal.Rows.{IsBetween, RowDecoded, RowsDecoded, open_events}
use Rattle.ffv1_decode.proofs.lemmas.Ranges.{joined_more, rest_of}
use Rattle.ffv1_decode.proofs.lemmas.RunsInRow.{runs_append, runs_one, stops_later}
use Rattle.ffv1_decode.proofs.lemmas.row.SeriesDecodes.{fails_sooner}
use Rattle.ffv1_decode.proofs.lemmas.row.KeptLines.{kept_closed}
use Rattle.ffv1_decode.proofs.lemmas.columns.TalliesUp.{decided_is, tally_unread}

-- what was decided, in another state with the same slices done and columns
abbrev pub Adding : Tally → Table → List Column → Tally → Type 0
Adding before t columns after = (s : State) → before ≡ tally_over t s.done → AreTold t columns s → HasDecided t s after

unread_at : (n k : ℕ) → k < n → get_or (replicate n unread) k unread ≡ unread
unread_at zero k h = absurd (omega (arith, h))
unread_at (suc n) zero h = refl
unread_at (suc n) (suc k) h = unread_at n k (omega (arith, h))

module _ {S : Type 0} (takes refuses : LineStep S) (a : Accepted) (coded : ℕ → List ℕ) (initial : S) where
  abbrev row : ℕ → List Event
  row = row_events a.configuration

  close_last : (r : ℕ) → row r ≡ open_events a.configuration r ++ (Close ∷ [])
  close_last r = sym (append_assoc (map (Open r) (range_with_len 0 a.configuration.columns)) (flat_map (series_events a.configuration r) (series_of a.configuration r)) (Close ∷ []))

  -- before the first row nothing is kept that it shares
  pub rows_none : (tally : Tally) (kept : List ℕ) → tally ≡ no_tally → RowsDecoded takes refuses a coded initial 0 tally kept None initial
  rows_none tally kept none = record {
    state = at_first a.configuration;
    runs = refl;
    columns_are = refl;
    says = refl;
    decided = none;
    rows = omega arith;
    above = λ some p y is shared k x inside small. absurd (omega (arith, shared));
    grows = refl;
  }

  module _ (r : ℕ) (tally : Tally) (kept : List ℕ) (first : Option Said) (now : S) (done : RowsDecoded takes refuses a coded initial r tally kept first now) where
    pub between : IsBetween a.configuration first done.state
    between = record {
      known = ap (λ (z : List Slice). length z) done.columns_are ∙ length-replicate a.configuration.columns unread;
      fresh = λ k h. ap (λ z. get_or z k unread) done.columns_are ∙ unread_at a.configuration.columns k h;
      says = done.says;
    }

    module _ (columns : List Column) (new : Tally) (adds : Adding tally a.table columns new) where
      pub rows_more : (lines : List ℕ) (next : Option Said) (later : S) → RowDecoded takes refuses a coded initial r columns lines next later done.state → RowsDecoded takes refuses a coded initial (r + 1) new lines next later
      rows_more lines next later made =
          let m = made.state in
          let t : State = record m { done = m.done ++ m.columns; columns = replicate a.configuration.columns unread } in
          let before : tally ≡ tally_over a.table m.done = done.decided ∙ ap (tally_over a.table) (sym made.done) in
          let zero_is : 0 + r ≡ r = omega arith in
          let more : suc r ≡ r + 1 = omega arith in
          let events : flat_map row (range_with_len 0 (r + 1)) ≡ flat_map row (range_with_len 0 r) ++ (open_events a.configuration r ++ (Close ∷ [])) =
          ap (λ n. flat_map row (range_with_len 0 n)) (sym more) ∙ joined_more row 0 r ∙ ap (λ k. flat_map row (range_with_len 0 r) ++ row k) zero_is ∙ ap (λ z. flat_map row (range_with_len 0 r) ++ z) (close_last r) in
          record {
            state = t;
            runs = subst (λ es. Runs (StepsBy a coded) (at_first a.configuration) es t) (sym events)
                (runs_append (StepsBy a coded) (at_first a.configuration) done.state t (flat_map row (range_with_len 0 r)) (open_events a.configuration r ++ (Close ∷ [])) done.runs
                (runs_append (StepsBy a coded) done.state m t (open_events a.configuration r) (Close ∷ []) made.runs (runs_one (StepsBy a coded) m t Close refl)));
            columns_are = refl;
            says = made.says;
            decided = (adds m before made.told).by_kind;
            rows =
                let long = length-append m.done m.columns in
                let done_long = ap (λ (z : List Slice). length z) made.done ∙ done.rows in
                omega (arith, long, done_long, made.known);
            above = λ some p y is.
                let long = ap (λ (z : List Slice). length z) made.done ∙ done.rows in
                subst (λ n. TiedKept a.configuration n p y (kept_line a.configuration p lines) t) more
                (kept_closed a.configuration r p y (kept_line a.configuration p lines) m t long refl (made.last some p is is.1).last);
            grows = made.grows;
          }

      pub rows_fail : (f : FrameFault) (later : S) → r < a.configuration.rows → FailsIn takes refuses a coded initial r columns (open_events a.configuration r) f later done.state →
          Faults takes refuses a coded initial later new f ⊎ SinkRefuses takes refuses a coded initial later new f
      rows_fail f later inside fails =
          let left = rest_of row r a.configuration.rows inside in
          let front = flat_map row (range_with_len 0 r) in
          let all : events_of a.configuration ≡ front ++ (open_events a.configuration r ++ ((Close ∷ []) ++ left.rest)) =
          left.is ∙ ap (λ z. front ++ (z ++ left.rest)) (close_last r) ∙ ap (λ z. front ++ z) (append_assoc (open_events a.configuration r) (Close ∷ []) left.rest) in
          let told_over : (s : State) → s.done ≡ done.state.done → AreTold a.table columns s → HasDecided a.table s new =
          λ s same told. adds s (done.decided ∙ ap (tally_over a.table) (sym same)) told in
          elim (fails_sooner takes refuses a coded initial r columns f later done.state (open_events a.configuration r) ((Close ∷ []) ++ left.rest) fails) [
            | inl fault ↦ inl (record {
              state = fault.state;
              refused = subst (λ es. Stops (StepsBy a coded) (FaultsWith a coded) (at_first a.configuration) es f fault.state) (sym all)
                  (stops_later (StepsBy a coded) (FaultsWith a coded) (at_first a.configuration) done.state fault.state f front (open_events a.configuration r ++ ((Close ∷ []) ++ left.rest)) done.runs fault.stops);
              decided = told_over fault.state fault.done fault.told;
              grows = fault.grows;
            })
            | inr refused ↦ inr (record {
              state = refused.state;
              row = r;
              number = refused.number;
              plane = refused.plane;
              line = refused.line;
              offers = record {
                before = front ++ refused.before;
                after = refused.after;
                parts = all ∙ ap (λ z. front ++ z) refused.parts ∙ sym (append_assoc front refused.before (Hand r refused.number refused.plane refused.line ∷ refused.after));
                runs = runs_append (StepsBy a coded) (at_first a.configuration) done.state refused.state front refused.before done.runs refused.runs;
              };
              is = refused.is;
              decided = told_over refused.state refused.done refused.told;
              between = refused.between;
              grows = refused.grows;
              last = refused.last;
            })
          ]

    pub rows_end : ((steps : List Step) → ones_in steps + zeros_in steps ≡ length steps) → (info : Said) → r ≡ a.configuration.rows → first ≡ Some info → Ends takes refuses a coded initial now tally info
    rows_end counts info all is = record {
      state = done.state;
      decodes = subst (λ n. Runs (StepsBy a coded) (at_first a.configuration) (flat_map row (range_with_len 0 n)) done.state) all done.runs;
      says = done.says ∙ is;
      decided = decided_is counts a.table done.state tally
          (done.decided ∙ sym (tally_unread a.table done.state.done a.configuration.columns) ∙ ap (λ z. tally_over a.table (done.state.done ++ z)) (sym done.columns_are));
      grows = done.grows;
    }
