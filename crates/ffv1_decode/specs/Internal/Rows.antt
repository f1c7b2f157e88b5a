-- What the decoding of a row of slices leaves, and of rows one below the other.
use Rattle.std.specs.Prelude.{◌≡◌, ℕ, ◌*◌, ◌<◌, Option, List, ◌++◌, map, length, replicate}
use Rattle.std.specs.List.{flat_map, range_with_len}
use Rattle.ffv1_wire.specs.Runs.{LineStep, Grows}
use Rattle.ffv1_range.specs.declared.tally.Tally.{Tally}
use Rattle.ffv1_record.specs.Configuration.{Configuration}
use Rattle.ffv1_record.specs.Accepted.{Accepted}
use Rattle.ffv1_decode.specs.declared.column.Column.{Column}
use Rattle.ffv1_frame.specs.SliceList.{Said}
use Rattle.ffv1_frame.specs.Runs.{Runs}
use Rattle.ffv1_frame.specs.Order.{Event, series_of, series_events, row_events}
use Rattle.ffv1_frame.specs.Order.Event.{Open}
use Rattle.ffv1_frame.specs.Decoding.{State, StepsBy, at_first, slice_at, unread}
use Rattle.ffv1_decode.specs.Internal.Tied.{AreTold}
use Rattle.ffv1_decode.specs.Internal.Shared.{AreAbove, AreLast}
use Rattle.ffv1_decode.specs.Internal.Tallies.{tally_over}

-- the events of a row, up to its close
abbrev pub open_events : Configuration → ℕ → List Event
open_events c r =
    map (Open r) (range_with_len 0 c.columns) ++ flat_map (series_events c r) (series_of c r)

-- no slice of the row is opened, and this was said before
pub record IsBetween (c : Configuration) (first : Option Said) (s : State) : Type 0 where
  pub known : length s.columns ≡ c.columns
  pub fresh : (k : ℕ) → k < c.columns → slice_at s k ≡ unread
  pub says : s.info ≡ first

module _ {S : Type 0} (takes refuses : LineStep S) (a : Accepted) (coded : ℕ → List ℕ) (initial : S)
  where
    -- a row was decoded
    pub record RowDecoded (r : ℕ) (columns : List Column) (kept : List ℕ) (first : Option Said)
        (now : S) (s : State) : Type 0 where
      pub state : State
      pub runs : Runs (StepsBy a coded) s (open_events a.configuration r) state
      pub told : AreTold a.table columns state
      pub says : state.info ≡ first
      pub done : state.done ≡ s.done
      pub known : length state.columns ≡ a.configuration.columns
      pub last : AreLast a.configuration r 3 kept state
      pub grows : Grows takes initial state.lines now

    -- the first n rows were decoded
    pub record RowsDecoded (n : ℕ) (tally : Tally) (kept : List ℕ) (first : Option Said) (now : S)
        : Type 0 where
      pub state : State
      pub runs : Runs (StepsBy a coded) (at_first a.configuration)
          (flat_map (row_events a.configuration) (range_with_len 0 n)) state
      pub columns_are : state.columns ≡ replicate a.configuration.columns unread
      pub says : state.info ≡ first
      pub decided : tally ≡ tally_over a.table state.done
      pub rows : length state.done ≡ n * a.configuration.columns
      pub above : AreAbove a.configuration n kept state
      pub grows : Grows takes initial state.lines now
