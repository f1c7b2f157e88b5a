-- It was looked at how far the slice of a segment was read, whether slices before say the same of
-- its samples, and whether it ends there.
use Rattle.std.proofs.Common.{◌≡◌, ◌≢◌, ◌<◌, ℕ, slice_index, List, [], ◌∷◌, length, inl, ap, sym, subst}
use Rattle.ffv1_range.specs.Symbols.{Step}
use Rattle.ffv1_record.specs.Accepted.{Accepted}
use Rattle.ffv1_decode.specs.declared.column.Column.{Column}
use Rattle.ffv1_frame.specs.declared.fault.FrameFault.{FrameFault}
use Rattle.ffv1_frame.specs.Order.{IsLastLine}
use Rattle.ffv1_frame.specs.Order.Event.{Read}
use Rattle.ffv1_frame.specs.Overread.{IsWithin, IsOverread}
use Rattle.ffv1_frame.specs.Ending.{SliceEnds, SliceGoesOn}
use Rattle.ffv1_frame.specs.Decoding.{State, Slice, FaultsWith, slice_at, slice_number, width_in, Agrees, SaidBefore}
use Rattle.ffv1_decode.specs.Internal.LeftBits.{AreLeft, MayEnd}
use Rattle.ffv1_decode.specs.Internal.Stands.{IsParked, told_by, tally_after}
use Rattle.ffv1_decode.specs.Internal.Tied.{SegmentMade, StepMade, Stopped, column_at, bytes_in, overread_in, unended_in, overlap_in}
use Rattle.ffv1_decode.proofs.lemmas.segment.SegmentReads.{Telling, parked_tells}
use Rattle.ffv1_decode.proofs.lemmas.segment.SegmentTied.{tied_told}

module _ (a : Accepted) (coded : ℕ → List ℕ) (r next : ℕ) (payload : List ℕ) (p offset y k : ℕ) (columns : List Column) (states two one cur : List ℕ) (s : State)
    (made : SegmentMade a coded r next payload p offset y k columns states two one cur s) (inside : k < a.configuration.columns) (telling : Telling) where
  abbrev column : Column
  column = column_at columns k

  -- what is looked at of the column holds of the slice
  abbrev pub LooksFar : (List ℕ → List Step → Type 0) → Type 0
  LooksFar Is = (past : List Step) → told_by column.parked ≡ tally_after a.table past → Is (bytes_in payload column) past

  abbrev pub LooksWhere : (List ℕ → Slice → Type 0) → Type 0
  LooksWhere Is = (q : Slice) → MayEnd a (bytes_in payload column) column q → Is (bytes_in payload column) q

  seen : (Is : List ℕ → List Step → Type 0) → LooksFar Is → Is (bytes_in payload column) (slice_at made.state k).past
  seen Is looks =
      let tied = made.columns_are.each k inside in
      looks (slice_at made.state k).past (parked_tells telling _ a.table column.parked (slice_at made.state k).past tied.stands)

  far : (Is : List ℕ → List Step → Type 0) → LooksFar Is → Is (coded (slice_number a.configuration r k)) (slice_at made.state k).past
  far Is looks = subst (λ b. Is b (slice_at made.state k).past) (made.columns_are.each k inside).bytes_are (seen Is looks)

  ending : (Is : List ℕ → Slice → Type 0) → LooksFar (IsWithin a) → LooksWhere Is → Is (coded (slice_number a.configuration r k)) (slice_at made.state k)
  ending Is within looks =
      let tied = made.columns_are.each k inside in
      let q = slice_at made.state k in
      let here : MayEnd a (bytes_in payload column) column q = record {
        parked = subst (λ b. IsParked b a.table column.parked q.past) (sym tied.bytes_are) tied.stands;
        left = λ is. subst (λ b. AreLeft a b q.past q.bits column.bits) (sym tied.bytes_are) (tied.kept.rice is).left;
        within = seen (IsWithin a) within;
      } in
      subst (λ b. Is b q) tied.bytes_are (looks q here)

  stop : (f : FrameFault) → FaultsWith a coded s (Read r k p y) f made.state → length columns ≡ a.configuration.columns → Stopped a coded columns (Read r k p y ∷ []) f s
  stop f fault long = record {
    state = made.state;
    stops = inl fault;
    told = tied_told a coded r next payload columns states made.state made.columns_are telling long;
    lines = ap (λ (z : State). z.lines) made.same;
    done = ap (λ (z : State). z.done) made.same;
  }

  pub step_looked : LooksFar (IsWithin a) → LooksWhere (λ bytes q. IsLastLine a.configuration r p y → SliceEnds a bytes q.past q.bits) → Agrees a.configuration s r k p y (width_in a.configuration p k) made.row →
      StepMade a coded r next payload p offset y k columns states two one cur s
  step_looked within ended agrees = record {
    state = made.state;
    step = made.step (far (IsWithin a) within) (ending (λ bytes q. IsLastLine a.configuration r p y → SliceEnds a bytes q.past q.bits) within ended) agrees;
    columns_are = made.columns_are;
    line_is = made.line_is agrees;
    others = made.others;
    same = made.same;
  }

  pub stop_looked : LooksFar (IsOverread a) → length columns ≡ a.configuration.columns → Stopped a coded columns (Read r k p y ∷ []) (overread_in a.configuration r k p y) s
  stop_looked over long = stop (overread_in a.configuration r k p y) (made.fault (far (IsOverread a) over)) long

  pub differs_looked : LooksFar (IsWithin a) → (x v : ℕ) → x < width_in a.configuration p k → Agrees a.configuration s r k p y x made.row → SaidBefore a.configuration s r k p y x v → slice_index made.row x ≢ v →
      length columns ≡ a.configuration.columns → Stopped a coded columns (Read r k p y ∷ []) (overlap_in a.configuration r k p y x) s
  differs_looked within x v small front said other long = stop (overlap_in a.configuration r k p y x) (made.differs (far (IsWithin a) within) x v small front said other) long

  pub unended_looked : LooksFar (IsWithin a) → LooksWhere (λ bytes q. IsLastLine a.configuration r p y × SliceGoesOn a bytes q.past q.bits) → Agrees a.configuration s r k p y (width_in a.configuration p k) made.row →
      length columns ≡ a.configuration.columns → Stopped a coded columns (Read r k p y ∷ []) (unended_in a.configuration r k p y) s
  unended_looked within lacks agrees long =
      let unended = ending (λ bytes q. IsLastLine a.configuration r p y × SliceGoesOn a bytes q.past q.bits) within lacks in
      stop (unended_in a.configuration r k p y) (made.unended (far (IsWithin a) within) unended.0 unended.1 agrees) long
