-- The slices of a row are opened one after the other: their run.
use Rattle.std.proofs.Common.{◌≡◌, ◌≢◌, refl, ℕ, suc, ◌+◌, ◌<◌, inl, inr, Option, Some, List, [], ◌∷◌, ◌++◌, map, length, slice_set, get_or, replicate, ap, sym, subst, ◌∙◌, arith, length-set, get_or-set_same, get_or-set_other}
use Rattle.std.specs.List.{range_with_len}
use Rattle.std.proofs.lemmas.Bool.{cases_eq}
use Rattle.ffv1_record.specs.Accepted.{Accepted}
use Rattle.ffv1_decode.specs.declared.column.Column.{Column}
use Rattle.ffv1_frame.specs.declared.fault.CodecFault.{CodecFault}
use Rattle.ffv1_frame.specs.SliceList.{Said, said_by}
use Rattle.ffv1_frame.specs.Runs.{Runs, Stops}
use Rattle.ffv1_frame.specs.Order.Event.{Open}
use Rattle.ffv1_frame.specs.Decoding.{State, Slice, AgreesWith, StepsBy, FaultsWith, RefusesOpen, slice_at, slice_number, put_slice, opened, decided_in, unread, in_slice}
use Rattle.ffv1_decode.specs.Internal.Stands.{Stands, told_by, tally_after}
use Rattle.ffv1_decode.specs.Internal.Tied.{AreTold, column_at, no_column, bytes_in}
use Rattle.ffv1_decode.specs.Internal.Opened.{ColumnOpened, ColumnRefused, IsOpened, RowOpened, RowRefused}
use Rattle.ffv1_decode.specs.Internal.Opened.{row_heads}
use Rattle.ffv1_decode.proofs.lemmas.segment.SegmentReads.{Telling, parked_tells}
use Rattle.ffv1_decode.proofs.lemmas.segment.SegmentTied.{slice_now, slice_other}
use Rattle.ffv1_decode.proofs.lemmas.Ranges.{mapped_more, mapped_rest}
use Rattle.ffv1_decode.proofs.lemmas.RunsInRow.{runs_append, runs_one, stops_later, stops_sooner}

module _ (a : Accepted) (coded : ℕ → List ℕ) (payload : List ℕ) (r : ℕ) (s : State) where
  module _ (n : ℕ) (columns : List Column) (first : Option Said) (column : Column) (before : RowOpened a coded payload r n (row_heads columns first) s) (inside : n < a.configuration.columns) (long : length columns ≡ a.configuration.columns) where
    known : length before.state.columns ≡ a.configuration.columns
    known = before.told.long ∙ long

    info_is : before.state.info ≡ first
    info_is = ap (λ (z : State). z.info) before.same

    column_now : column_at (slice_set columns n column) n ≡ column
    column_now = get_or-set_same columns n column no_column (omega (arith, inside, long))

    column_other : (j : ℕ) → j ≢ n → column_at (slice_set columns n column) j ≡ column_at columns j
    column_other j other = get_or-set_other columns n j column no_column other

    -- what is counted when the slice of this column becomes another one
    told_with : (m : State) → m.columns ≡ before.state.columns → (q : Slice) → told_by column.parked ≡ tally_after a.table q.past → AreTold a.table (slice_set columns n column) (put_slice m n q)
    told_with m same q here = record {
      long = length-set m.columns n q ∙ ap (λ (z : List Slice). length z) same ∙ before.told.long ∙ sym (length-set columns n column);
      each = λ j h. elim (cases_eq j n) [
        | inl at ↦
            let few : n < length m.columns = omega (arith, inside, known, ap (λ (z : List Slice). length z) same) in
            let one : told_by (column_at (slice_set columns n column) n).parked ≡ tally_after a.table (slice_at (put_slice m n q) n).past =
            ap (λ (z : Column). told_by z.parked) column_now ∙ here ∙ ap (λ (z : Slice). tally_after a.table z.past) (sym (slice_now m n q few)) in
            subst (λ z. told_by (column_at (slice_set columns n column) z).parked ≡ tally_after a.table (slice_at (put_slice m n q) z).past) (sym at) one
        | inr other ↦
            let same_slice : slice_at m j ≡ slice_at before.state j = ap (λ (z : List Slice). get_or z j unread) same in
            ap (λ (z : Column). told_by z.parked) (column_other j other) ∙ before.told.each j (omega (arith, h, length-set columns n column))
            ∙ ap (λ (z : Slice). tally_after a.table z.past) (sym (slice_other m n j q other ∙ same_slice))
      ];
    }

    pub one_opened : Telling → (new : Option Said) → ColumnOpened a coded payload (slice_number a.configuration r n) column first new → RowOpened a coded payload r (suc n) (row_heads (slice_set columns n column) new) s
    one_opened telling new made =
        let num = slice_number a.configuration r n in
        let m : State = record before.state { info = Some (said_by a.profile made.head) } in
        let q = opened a coded num made.head in
        let t = put_slice m n q in
        let few : n < length m.columns = omega (arith, inside, known) in
        let step : StepsBy a coded before.state (Open r n) t = (made.head, made.codes, subst (λ z. AgreesWith z (said_by a.profile made.head)) (sym info_is) made.agrees, refl, made.within) in
        let zero_is : 0 + n ≡ n = omega arith in
        record {
          state = t;
          runs = subst (λ es. Runs (StepsBy a coded) s es t) (sym (mapped_more (Open r) 0 n ∙ ap (λ k. map (Open r) (range_with_len 0 n) ++ (Open r k ∷ [])) zero_is))
              (runs_append (StepsBy a coded) s before.state t (map (Open r) (range_with_len 0 n)) (Open r n ∷ []) before.runs (runs_one (StepsBy a coded) before.state t (Open r n) step));
          same = ap (λ (z : State). record z { columns = t.columns; info = Some (said_by a.profile made.head) }) before.same ∙ ap (λ z. record s { columns = t.columns; info = z }) (sym made.says);
          told = told_with m refl q (parked_tells telling (coded num) a.table column.parked q.past (made.stands 0).decoder);
          each = λ k h. elim (cases_eq k n) [
            | inl at ↦
                let now : IsOpened a coded payload r n (column_at (slice_set columns n column) n) t = record {
                  head = made.head;
                  slice_is = slice_now m n q few;
                  bytes_are = ap (bytes_in payload) column_now ∙ made.bytes_are;
                  indexes = ap (λ (z : Column). z.indexes) column_now ∙ made.indexes;
                  stands = λ slots.
                      let one = subst (λ (z : Column). Stands (coded num) a.table 33 z.parked (replicate slots 128) q.past) (sym column_now) (made.stands slots) in
                      subst (λ (z : Slice). Stands (coded num) a.table 33 (column_at (slice_set columns n column) n).parked (replicate slots 128) z.past) (sym (slice_now m n q few)) one;
                  bits = ap (λ (z : Column). z.bits) column_now ∙ made.bits;
                  index = ap (λ (z : Column). z.index) column_now ∙ made.index;
                } in
                subst (λ z. IsOpened a coded payload r z (column_at (slice_set columns n column) z) t) (sym at) now
            | inr other ↦
                let was = before.each k (omega (arith, h, other)) in
                let c_is = column_other k other in
                let s_is : slice_at t k ≡ slice_at before.state k = slice_other m n k q other in
                record {
                  head = was.head;
                  slice_is = s_is ∙ was.slice_is;
                  bytes_are = ap (bytes_in payload) c_is ∙ was.bytes_are;
                  indexes = ap (λ (z : Column). z.indexes) c_is ∙ was.indexes;
                  stands = λ slots.
                      let one = subst (λ (z : Column). Stands (coded (slice_number a.configuration r k)) a.table 33 z.parked (replicate slots 128) (slice_at before.state k).past) (sym c_is) (was.stands slots) in
                      subst (λ (z : Slice). Stands (coded (slice_number a.configuration r k)) a.table 33 (column_at (slice_set columns n column) k).parked (replicate slots 128) z.past) (sym s_is) one;
                  bits = ap (λ (z : Column). z.bits) c_is ∙ was.bits;
                  index = ap (λ (z : Column). z.index) c_is ∙ was.index;
                }
          ];
          later = λ k from h. let other : k ≢ n = omega (arith, from) in slice_other m n k q other ∙ before.later k (omega (arith, from)) h;
        }

    pub one_refused : (f : CodecFault) (many : ℕ) → n < many → ColumnRefused a coded (slice_number a.configuration r n) column first f → RowRefused a coded r many (slice_set columns n column) (in_slice f (slice_number a.configuration r n)) s
    one_refused f many few made =
        let num = slice_number a.configuration r n in
        let q = decided_in made.steps in
        let t = put_slice before.state n q in
        let refuses = subst (λ z. RefusesOpen a coded z num f made.steps) (sym info_is) made.refuses in
        let rest = mapped_rest (Open r) 0 n many few in
        let zero_is : 0 + n ≡ n = omega arith in
        let stop : Stops (StepsBy a coded) (FaultsWith a coded) before.state (Open r n ∷ []) (in_slice f num) t = inl (made.steps, refuses, refl, refl) in
        record {
          state = t;
          stops = subst (λ es. Stops (StepsBy a coded) (FaultsWith a coded) s es (in_slice f num) t) (sym (rest.is ∙ ap (λ k. map (Open r) (range_with_len 0 n) ++ (Open r k ∷ rest.rest)) zero_is))
              (stops_later (StepsBy a coded) (FaultsWith a coded) s before.state t (in_slice f num) (map (Open r) (range_with_len 0 n)) (Open r n ∷ rest.rest) before.runs
              (stops_sooner (StepsBy a coded) (FaultsWith a coded) before.state t (in_slice f num) (Open r n ∷ []) rest.rest stop));
          told = told_with before.state refl q made.told;
          lines = ap (λ (z : State). z.lines) before.same;
          done = ap (λ (z : State). z.done) before.same;
        }
