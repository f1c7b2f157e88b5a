-- What some events of decoding leave, and a sink with them: they were made, one was refused, or the
-- sink refused a line.
use Rattle.std.specs.Prelude.{◌≡◌, ◌⊎◌, ℕ, ◌+◌, ◌*◌, ◌<◌, List, [], ◌∷◌}
use Rattle.std.specs.Prelude.{◌++◌, length}
use Rattle.std.proofs.Common.{get_or, suc}
use Rattle.std.specs.List.{flat_map, range_with_len}
use Rattle.ffv1_wire.specs.Runs.{LineStep, Grows}
use Rattle.ffv1_record.specs.Configuration.{Configuration}
use Rattle.ffv1_record.specs.Accepted.{Accepted}
use Rattle.ffv1_decode.specs.declared.column.Column.{Column}
use Rattle.ffv1_frame.specs.declared.fault.CodecFault.TheVariants as fault
use Rattle.ffv1_frame.specs.declared.fault.FrameFault.{FrameFault}
use Rattle.ffv1_frame.specs.Picture.{line_bytes, width_bytes}
use Rattle.ffv1_frame.specs.Runs.{Runs, Stops}
use Rattle.ffv1_frame.specs.Order.{Event, Series, hand_events, line_events}
use Rattle.ffv1_frame.specs.Order.{series_events, series_of, lines_down}
use Rattle.ffv1_frame.specs.Order.Event.{Hand}
use Rattle.ffv1_frame.specs.Decoding.{State, StepsBy, FaultsWith, fault_in, top_of}
use Rattle.ffv1_frame.specs.Windows.{window}
use Rattle.ffv1_decode.specs.Internal.Tied.{AreTold, TiedColumns, TiedPlanes}
use Rattle.ffv1_decode.specs.Internal.Tied.{row_slices, rolling_lines, plane_group}
use Rattle.ffv1_decode.specs.Internal.Shared.{AreLast, IsLast}

-- the lines that are handed over next stand in a line of output, in bytes
abbrev pub StandsIn : Configuration → ℕ → ℕ → List ℕ → State → Type 0
StandsIn c first count out s =
    (i : ℕ) → i < count →
    get_or s.out i [] ≡ window (i * width_bytes c) (line_bytes c (first + i)) out

-- what was said and what is done are as before
pub record Kept (s t : State) : Type 0 where
  pub info : t.info ≡ s.info
  pub done : t.done ≡ s.done

-- planes that are coded together, in row r
abbrev pub series_at : Configuration → ℕ → ℕ → ℕ → Series
series_at c r first count =
    record { planes = range_with_len first count; height = lines_down c first r }

-- what is decoded of the planes of row r
abbrev pub planes_events : Configuration → ℕ → List Event
planes_events c r = flat_map (series_events c r) (series_of c r)

-- the fault of a line that the sink refused
abbrev pub sink_fault : Configuration → ℕ → ℕ → ℕ → FrameFault
sink_fault c r plane line = fault_in c fault.Sink r 0 plane line 0

module _ {S : Type 0} (takes refuses : LineStep S) (a : Accepted) (coded : ℕ → List ℕ) (initial : S)
  where
    -- so many planes of a line were handed over
    pub record Handed (r first count y : ℕ) (now : S) (s : State) : Type 0 where
      pub state : State
      pub runs : Runs (StepsBy a coded) s (hand_events r (range_with_len first count) y) state
      pub same : state ≡ record s { lines = state.lines }
      pub grows : Grows takes initial state.lines now

    -- one of the events was refused
    pub record FaultsIn (columns : List Column) (events : List Event) (f : FrameFault) (now : S)
        (s : State) : Type 0 where
      pub state : State
      pub stops : Stops (StepsBy a coded) (FaultsWith a coded) s events f state
      pub told : AreTold a.table columns state
      pub done : state.done ≡ s.done
      pub grows : Grows takes initial state.lines now

    -- the sink refused a line in row r
    pub record RefusedIn (r : ℕ) (columns : List Column) (events : List Event) (f : FrameFault)
        (now : S) (s : State) : Type 0 where
      pub state : State
      pub number : ℕ
      pub plane : ℕ
      pub line : ℕ
      pub before : List Event
      pub after : List Event
      pub parts : events ≡ before ++ (Hand r number plane line ∷ after)
      pub runs : Runs (StepsBy a coded) s before state
      pub told : AreTold a.table columns state
      pub done : state.done ≡ s.done
      pub is : f ≡ sink_fault a.configuration r plane line
      pub between : S
      pub grows : Grows takes initial state.lines between
      pub last : refuses between plane (top_of a.configuration plane r + line)
          (get_or state.out number []) now

    abbrev pub FailsIn : ℕ → List Column → List Event → FrameFault → S → State → Type 0
    FailsIn r columns events f now s =
        FaultsIn columns events f now s ⊎ RefusedIn r columns events f now s

    -- line y of planes that are coded together was decoded
    pub record LineDecoded (r next : ℕ) (payload : List ℕ) (first count y : ℕ)
        (columns : List Column) (states one cur : List ℕ) (now : S) (s : State) : Type 0 where
      pub state : State
      pub runs : Runs (StepsBy a coded) s
          (line_events a.configuration r (range_with_len first count) y) state
      pub columns_are : TiedColumns a coded r next payload (row_slices columns states) state
      pub planes_are : TiedPlanes a.configuration (plane_group first count) 0 0 (suc y)
          (rolling_lines one cur cur) state
      pub kept : Kept s state
      pub grows : Grows takes initial state.lines now

    -- events of row r were made, and the planes from next on are not begun
    pub record Decoded (r next : ℕ) (payload : List ℕ) (events : List Event)
        (columns : List Column) (states : List ℕ) (now : S) (s : State) : Type 0 where
      pub state : State
      pub runs : Runs (StepsBy a coded) s events state
      pub columns_are : TiedColumns a coded r next payload (row_slices columns states) state
      pub kept : Kept s state
      pub grows : Grows takes initial state.lines now

    -- the lines of planes that are coded together were decoded
    abbrev pub SeriesDecoded : ℕ → List ℕ → ℕ → ℕ → List Column → List ℕ → S → State → Type 0
    SeriesDecoded r payload first count columns states now s =
        Decoded r (first + count) payload
        (series_events a.configuration r (series_at a.configuration r first count)) columns states
        now s

    -- and what is kept is their last line
    pub record SeriesKept (r : ℕ) (payload : List ℕ) (first count : ℕ) (columns : List Column)
        (states kept : List ℕ) (now : S) (s : State) : Type 0 where
      pub decoded : SeriesDecoded r payload first count columns states now s
      pub last : 0 < length kept → IsLast a.configuration r first kept decoded.state

    -- the planes before `next` of row r were decoded, and of chroma their last lines are kept
    pub record PlanesKept (r next : ℕ) (payload : List ℕ) (events : List Event)
        (columns : List Column) (states kept : List ℕ) (now : S) (s : State) : Type 0 where
      pub decoded : Decoded r next payload events columns states now s
      pub last : AreLast a.configuration r next kept decoded.state

    -- so many of their lines
    pub record LinesDecoded (r next : ℕ) (payload : List ℕ) (first count y : ℕ)
        (columns : List Column) (states two one : List ℕ) (now : S) (s : State) : Type 0 where
      pub state : State
      pub runs : Runs (StepsBy a coded) s
          (flat_map (line_events a.configuration r (range_with_len first count))
          (range_with_len 0 y)) state
      pub columns_are : TiedColumns a coded r next payload (row_slices columns states) state
      pub planes_are : TiedPlanes a.configuration (plane_group first count) 0 0 y
          (rolling_lines two one one) state
      pub kept : Kept s state
      pub grows : Grows takes initial state.lines now
