use Rattle.std.proofs.Common.{◌≡◌, ℕ, ◌<◌, ◌≤◌, None, length}
use Rattle.std.specs.Prelude.{IsSome}
use Rattle.ffv1_frame.specs.Decoding.{State, slice_at, unread}
use Rattle.ffv1_decode.specs.Internal.Tied.{IsOpen, column_at}
use Rattle.ffv1_decode.specs.Internal.Opened.{RowOpened, coded_by, row_heads}
use Rattle.ffv1_decode.proofs.opening.open_row.Given as goal

abbrev pub invariant-loop-k : goal.invariant-loop-k
invariant-loop-k g l = record {
  closed : (k : ℕ) → l.k ≤ k → k < length l.columns → (column_at l.columns k).parked ≡ None;
  opened : (k : ℕ) → k < l.k → IsOpen l.frame.payload.now l.frame.checked.now.configuration.sets
      (column_at l.columns k);
  known : 0 < l.k → IsSome l.first;
  row : (s : State) → length s.columns ≡ l.frame.checked.now.configuration.columns →
      ((k : ℕ) → k < l.frame.checked.now.configuration.columns → slice_at s k ≡ unread) → s.info ≡
      l.fn.first →
      RowOpened l.frame.checked.now (coded_by l.frame.checked.now l.frame.payload.now l.spans)
      l.frame.payload.now l.row l.k (row_heads l.columns l.first) s;
}
