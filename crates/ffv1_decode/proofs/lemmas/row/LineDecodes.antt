-- A line is read, made and handed over: its run.
use Rattle.std.proofs.Common.{◌≡◌, refl, ℕ, ◌+◌, ◌*◌, inl, List, [], ◌∷◌, ◌++◌, get_or, ap, sym, subst, ◌∙◌, arith, append_assoc}
use Rattle.std.specs.List.{flat_map, range_with_len}
use Rattle.ffv1_wire.specs.Runs.{LineStep, Grows}
use Rattle.ffv1_record.specs.Accepted.{Accepted}
use Rattle.ffv1_slice.specs.Grid.{division_of, across}
use Rattle.ffv1_decode.specs.declared.column.Column.{Column}
use Rattle.ffv1_frame.specs.declared.fault.FrameFault.{FrameFault}
use Rattle.ffv1_frame.specs.Runs.{Runs}
use Rattle.ffv1_decode.specs.Internal.Places.{AreParts}
use Rattle.ffv1_frame.specs.Order.{Event, column_events, hand_events, new_planes, line_events}
use Rattle.ffv1_frame.specs.Order.Event.{Finish, Hand}
use Rattle.ffv1_frame.specs.Picture.{plane}
use Rattle.ffv1_frame.specs.Decoding.{State, StepsBy, FaultsWith, unread}
use Rattle.ffv1_decode.specs.Internal.Tied.{TiedColumns, PlanesRead, Stopped, AreTold, row_slices}
use Rattle.ffv1_decode.specs.Internal.Progress.{Handed, FaultsIn, RefusedIn, LineDecoded}
use Rattle.ffv1_decode.specs.Internal.Finished.{Finished}
use Rattle.ffv1_decode.proofs.lemmas.RunsInRow.{runs_append, stops_later, stops_sooner}
use Rattle.ffv1_decode.proofs.lemmas.plane_lines.PlanesReads.{upto_all}
use Rattle.ffv1_decode.proofs.lemmas.row.LineEnds.{line_turned}

-- a tie of the columns, in another state with the same slices
pub tied_again : (a : Accepted) (coded : ℕ → List ℕ) (r next : ℕ) (payload : List ℕ) (columns : List Column) (states : List ℕ) (s t : State) → t.columns ≡ s.columns → TiedColumns a coded r next payload (row_slices columns states) s → TiedColumns a coded r next payload (row_slices columns states) t
tied_again a coded r next payload columns states s t same tied =
    let u : State = record t { columns = s.columns } in
    let one : TiedColumns a coded r next payload (row_slices columns states) u = record { known = tied.known; each = tied.each } in
    let is : u ≡ t = ap (λ z. record t { columns = z }) (sym same) in
    subst (TiedColumns a coded r next payload (row_slices columns states)) is one

pub told_again : (a : Accepted) (columns : List Column) (s t : State) → t.columns ≡ s.columns → AreTold a.table columns s → AreTold a.table columns t
told_again a columns s t same told =
    let u : State = record t { columns = s.columns } in
    let one : AreTold a.table columns u = record { long = told.long; each = told.each } in
    let is : u ≡ t = ap (λ z. record t { columns = z }) (sym same) in
    subst (AreTold a.table columns) is one

module _ {S : Type 0} (takes refuses : LineStep S) (a : Accepted) (coded : ℕ → List ℕ) (initial : S) (r next : ℕ) (payload : List ℕ) (first count y : ℕ) (s : State) where
  abbrev planes : List ℕ
  planes = range_with_len first count

  abbrev reads : List Event
  reads = flat_map (column_events r planes y) (range_with_len 0 a.configuration.columns)

  abbrev hands : List Event
  hands = hand_events r (new_planes a.configuration r planes y) y

  pub read_fails : (columns : List Column) (f : FrameFault) (now : S) → Grows takes initial s.lines now → Stopped a coded columns reads f s → FaultsIn takes refuses a coded initial columns (line_events a.configuration r planes y) f now s
  read_fails columns f now grows stopped = record {
    state = stopped.state;
    stops = stops_sooner (StepsBy a coded) (FaultsWith a coded) s stopped.state f reads (Finish r planes y ∷ hands) stopped.stops;
    told = stopped.told;
    done = stopped.done;
    grows = subst (λ z. Grows takes initial z now) (sym stopped.lines) grows;
  }

  module _ (columns : List Column) (states two one cur : List ℕ) (now : S) (grows : Grows takes initial s.lines now)
      (read : PlanesRead a coded r next payload first count y a.configuration.columns 0 columns states two one cur s) (told : AreTold a.table columns read.state) where
    runs_read : Runs (StepsBy a coded) s reads read.state
    runs_read = subst (λ es. Runs (StepsBy a coded) s es read.state) (upto_all a coded r next payload first count y a.configuration.columns) read.runs

    grows_read : Grows takes initial read.state.lines now
    grows_read = subst (λ (z : State). Grows takes initial z.lines now) (sym read.same) grows

    pub finish_fails : (f : FrameFault) → FaultsWith a coded read.state (Finish r planes y) f read.state → FaultsIn takes refuses a coded initial columns (line_events a.configuration r planes y) f now s
    finish_fails f fault = record {
      state = read.state;
      stops = stops_later (StepsBy a coded) (FaultsWith a coded) s read.state read.state f reads (Finish r planes y ∷ hands) runs_read (inl fault);
      told = told;
      done = ap (λ (z : State). z.done) read.same;
      grows = grows_read;
    }

    module _ (out : List ℕ) (made : Finished a.configuration first count y out read.state) where
      abbrev pub finished : State
      finished = record read.state { out = made.lines }

      pub finished_told : AreTold a.table columns finished
      finished_told = told_again a columns read.state finished refl told

      runs_finish : (es : List Event) (t : State) → Runs (StepsBy a coded) finished es t → Runs (StepsBy a coded) s (reads ++ (Finish r planes y ∷ es)) t
      runs_finish es t runs = runs_append (StepsBy a coded) s read.state t reads (Finish r planes y ∷ es) runs_read (finished, (made.lines, made.finishes, refl), runs)

      pub grows_finished : Grows takes initial finished.lines now
      grows_finished = grows_read

      pub hand_fails : new_planes a.configuration r planes y ≡ planes → (f : FrameFault) (after : S) → RefusedIn takes refuses a coded initial r columns (hand_events r planes y) f after finished → RefusedIn takes refuses a coded initial r columns (line_events a.configuration r planes y) f after s
      hand_fails new f after stopped = let refused = subst (λ ps. RefusedIn takes refuses a coded initial r columns (hand_events r ps y) f after finished) (sym new) stopped in record {
        state = refused.state;
        number = refused.number;
        plane = refused.plane;
        line = refused.line;
        before = reads ++ (Finish r planes y ∷ refused.before);
        after = refused.after;
        parts = ap (λ z. reads ++ (Finish r planes y ∷ z)) refused.parts ∙ sym (append_assoc reads (Finish r planes y ∷ refused.before) (Hand r refused.number refused.plane refused.line ∷ refused.after));
        runs = runs_finish refused.before refused.state refused.runs;
        told = refused.told;
        done = refused.done ∙ ap (λ (z : State). z.done) read.same;
        is = refused.is;
        between = refused.between;
        grows = refused.grows;
        last = refused.last;
      }

      -- after what is handed over, if anything
      line_by : ((p : ℕ) → AreParts (across (division_of a.configuration) p)) → (after : S) (t : State) → Runs (StepsBy a coded) finished hands t → t ≡ record finished { lines = t.lines } → Grows takes initial t.lines after →
          LineDecoded takes refuses a coded initial r next payload first count y columns states one cur after s
      line_by parts after t handed same grown =
          let same_columns : t.columns ≡ read.state.columns = ap (λ (z : State). z.columns) same in
          record {
            state = t;
            runs = runs_finish hands t handed;
            columns_are = tied_again a coded r next payload columns states read.state t same_columns read.columns_are;
            planes_are = record {
              done = λ j less. absurd (omega (arith, less));
              todo = λ j from less.
                  line_turned a.configuration (first + j) (j * a.configuration.width) y two one cur read.state (read.planes_are.todo j (omega arith) less) (parts (first + j)) cur t
                  (λ k. ap (λ z. plane (get_or z k unread).cells (first + j)) same_columns);
            };
            kept = record {
              info = ap (λ (z : State). z.info) same ∙ ap (λ (z : State). z.info) read.same;
              done = ap (λ (z : State). z.done) same ∙ ap (λ (z : State). z.done) read.same;
            };
            grows = grown;
          }

      pub line_decoded : new_planes a.configuration r planes y ≡ planes → ((p : ℕ) → AreParts (across (division_of a.configuration) p)) → (after : S) → Handed takes refuses a coded initial r first count y after finished →
          LineDecoded takes refuses a coded initial r next payload first count y columns states one cur after s
      line_decoded new parts after handed =
          line_by parts after handed.state (subst (λ ps. Runs (StepsBy a coded) finished (hand_events r ps y) handed.state) (sym new) handed.runs) handed.same handed.grows

      -- a line that the row above has handed over
      pub line_kept : new_planes a.configuration r planes y ≡ [] → ((p : ℕ) → AreParts (across (division_of a.configuration) p)) →
          LineDecoded takes refuses a coded initial r next payload first count y columns states one cur now s
      line_kept none parts =
          line_by parts now finished (subst (λ ps. Runs (StepsBy a coded) finished (hand_events r ps y) finished) (sym none) refl) refl grows_finished
