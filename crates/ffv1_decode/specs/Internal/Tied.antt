-- What ties the columns, states and lines of a decoder to what is known between two events.
use Rattle.std.specs.Prelude.{◌≡◌, ◌≢◌, ℕ, ◌+◌, ◌-◌, ◌*◌, ◌^◌, ◌<◌, ◌≤◌, IsSome, Some, None, List}
use Rattle.std.specs.Prelude.{◌⊎◌, [], ◌++◌, IsFalse, length, slice_index, slice_index_or}
use Rattle.std.proofs.Common.{suc}
use Rattle.std.specs.List.{flat_map, range_with_len}
use Rattle.ffv1_range.specs.Table.{Table}
use Rattle.ffv1_range.specs.History.{HasStates}
use Rattle.ffv1_plane.specs.Quantisation.{Set}
use Rattle.ffv1_record.specs.Configuration.{Configuration}
use Rattle.ffv1_record.specs.Accepted.{Accepted, IsAccepted, is_rice}
use Rattle.ffv1_record.specs.Held.{classes_of, planes_of}
use Rattle.ffv1_record.specs.Sets.{most_contexts}
use Rattle.ffv1_slice.specs.Grid.{division_of, across, down, shared_of}
use Rattle.ffv1_line.specs.Cell.{Rolls}
use Rattle.ffv1_decode.specs.declared.column.Column.{Column}
use Rattle.ffv1_decode.specs.declared.parts.Frame.{Frame}
use Rattle.ffv1_frame.specs.declared.fault.CodecFault.TheVariants as fault
use Rattle.ffv1_frame.specs.declared.fault.FrameFault.{FrameFault}
use Rattle.ffv1_frame.specs.Overread.{IsWithin, IsOverread}
use Rattle.ffv1_frame.specs.Ending.{SliceEnds, SliceGoesOn}
use Rattle.ffv1_frame.specs.RiceLines.{ByCoder}
use Rattle.ffv1_frame.specs.Picture.{plane, plane_count, plane_width, width_bytes}
use Rattle.ffv1_frame.specs.SliceList.{bits_of}
use Rattle.ffv1_frame.specs.Runs.{Runs, Stops}
use Rattle.ffv1_frame.specs.Order.{Event, IsLastLine, column_events, lines_down}
use Rattle.ffv1_frame.specs.Order.Event.{Read}
use Rattle.ffv1_frame.specs.Decoding.{State, Slice, StepsBy, FaultsWith, slice_at, slice_number}
use Rattle.ffv1_frame.specs.Decoding.{ending_fault, fault_in, left_of, width_in, above_sample}
use Rattle.ffv1_frame.specs.Decoding.{SaidBefore, Agrees}
use Rattle.ffv1_decode.specs.Internal.Stands.{IsParked, told_by, tally_after}
use Rattle.ffv1_decode.specs.Internal.LeftBits.{KeepsBits}
use Rattle.ffv1_frame.specs.Windows.{window}
use Rattle.ffv1_line.specs.declared.cell.rows.RollingRows.{RollingRows}

-- how many states a slice has
abbrev pub slots_in : Configuration → ℕ
slots_in c = classes_of c.chroma_planes c.extra_plane * most_contexts c.sets * 32

-- how many states a row of slices has
abbrev pub row_slots : Configuration → ℕ
row_slots c = c.columns * slots_in c

-- how many samples the lines have of planes that are coded together, and in how many bytes they are
-- handed over
abbrev pub line_length : Configuration → ℕ
line_length c = planes_of c.colour c.extra_plane * c.width

abbrev pub output_length : Configuration → ℕ
output_length c = planes_of c.colour c.extra_plane * width_bytes c

-- a line of planes, each as wide as the picture, has all samples of the plane of this number
abbrev pub HasPlane : Configuration → ℕ → ℕ → Type 0
HasPlane c index long = index * c.width + c.width ≤ long

-- what is computed of a configuration once
pub record IsFrame {A : Type 0} (f : Frame A) : Type 0 where
  pub grid : f.grid ≡ division_of f.checked.now.configuration
  pub most : f.most ≡ most_contexts f.checked.now.configuration.sets
  pub slots : f.slots ≡ slots_in f.checked.now.configuration
  pub apart : IsFalse f.shares → (k : ℕ) → k < f.grid.columns → shared_of (across f.grid 1) k ≡ 0
  pub accepted : IsAccepted f.checked.now.configuration f.checked.now.table

abbrev pub no_column : Column
no_column =
    record { parked = None; bits = None; index = 0; first = 0; last = 0; indexes = [] }

abbrev pub column_at : List Column → ℕ → Column
column_at columns k = slice_index_or columns k no_column

-- the coded bytes of a column's slice
abbrev pub bytes_in : List ℕ → Column → List ℕ
bytes_in payload q = window q.first (q.last - q.first) payload

-- a column that may be read
pub record IsOpen (payload : List ℕ) (sets : List Set) (q : Column) : Type 0 where
  pub parked : IsSome q.parked
  pub rises : q.first ≤ q.last
  pub inside : q.last ≤ length payload
  pub index : (class : ℕ) → class < 3 → slice_index q.indexes class < length sets
  pub left : (n : ℕ) → q.bits ≡ Some n → n ≤ 8 * (q.last - q.first)
  pub run : q.index ≤ 32

abbrev pub AreOpen : List ℕ → List Set → List Column → Type 0
AreOpen payload sets columns =
    (k : ℕ) → k < length columns → IsOpen payload sets (column_at columns k)

-- a column and its states are those of a slice, of which the planes from next on are not begun
pub record TiedColumn (a : Accepted) (bytes payload : List ℕ) (next : ℕ) (column : Column)
    (states : List ℕ) (q : Slice) : Type 0 where
  pub bytes_are : bytes_in payload column ≡ bytes
  pub indexes : column.indexes ≡ q.head.indexes
  pub cells : length q.cells ≡ plane_count a.configuration
  pub small : (p i : ℕ) → slice_index (plane q.cells p) i < 2 ^ bits_of a.configuration
  pub begun : (p : ℕ) → next ≤ p → plane q.cells p ≡ []
  pub stands : IsParked bytes a.table column.parked q.past
  pub kept : ByCoder (is_rice a.configuration.coder) (HasStates a.table states 33 q.past)
      (KeepsBits a bytes column states q)

-- the columns of a row, and their states, one column's after the other's
pub record RowSlices : Type 0 where
  pub columns : List Column
  pub states : List ℕ

abbrev pub row_slices : List Column → List ℕ → RowSlices
row_slices columns states = record { columns = columns; states = states }

-- they are those of its slices
pub record TiedColumns (a : Accepted) (coded : ℕ → List ℕ) (r next : ℕ) (payload : List ℕ)
    (slices : RowSlices) (s : State) : Type 0 where
  pub known : length s.columns ≡ a.configuration.columns
  pub each : (k : ℕ) → k < a.configuration.columns →
      TiedColumn a (coded (slice_number a.configuration r k)) payload next
      (column_at slices.columns k)
      (window (k * slots_in a.configuration) (slots_in a.configuration) slices.states)
      (slice_at s k)

-- the part of a line of plane p, which begins at offset, that lies in column k
abbrev pub part_of : Configuration → ℕ → ℕ → ℕ → List ℕ → List ℕ
part_of c p offset k line = window (offset + left_of c p k) (width_in c p k) line

-- a line is as before, except in the part of this width from offset on
abbrev pub KeepsBeside : ℕ → ℕ → List ℕ → List ℕ → Type 0
KeepsBeside offset width old new =
    (b n : ℕ) → b + n ≤ length old → (b + n ≤ offset) ⊎ (offset + width ≤ b) →
    window b n new ≡ window b n old

-- three lines that roll: the lines two and one above a line, and that line
abbrev pub rolling_lines : List ℕ → List ℕ → List ℕ → RollingRows (List ℕ)
rolling_lines two one cur = record { two = two; one = one; cur = cur }

-- they are those of plane p about its line y, whose first n columns are read
pub record TiedLine (c : Configuration) (p offset n y : ℕ) (lines : RollingRows (List ℕ))
    (s : State) : Type 0 where
  pub unread : (k : ℕ) → n ≤ k → k < c.columns →
      Rolls (width_in c p k) (plane (slice_at s k).cells p) (part_of c p offset k lines.two)
      (part_of c p offset k lines.one) y
  pub read : (k : ℕ) → k < n → k < c.columns →
      Rolls (width_in c p k) (plane (slice_at s k).cells p) (part_of c p offset k lines.one)
      (part_of c p offset k lines.cur) (suc y)

-- so many samples of line y of plane p in row r are kept from the row of slices above: the line of
-- the plane, if both rows code it, else none
abbrev pub IsKept : Configuration → ℕ → ℕ → ℕ → ℕ → Type 0
IsKept c r p y long =
    ((long ≡ 0) × (shared_of (down (division_of c) p) r ≤ y))
    ⊎ ((long ≡ plane_width c p) × (y < shared_of (down (division_of c) p) r))

-- they are what the slices above have
abbrev pub TiedKept : Configuration → ℕ → ℕ → ℕ → List ℕ → State → Type 0
TiedKept c r p y kept s =
    y < shared_of (down (division_of c) p) r → (k x : ℕ) → k < c.columns → x < width_in c p k →
    slice_index kept (left_of c p k + x) ≡ above_sample c s r k p x

-- they are the last line that the slices of row r have of plane p
abbrev pub TiedLast : Configuration → ℕ → ℕ → List ℕ → State → Type 0
TiedLast c r p kept s =
    (k x : ℕ) → k < c.columns → x < width_in c p k → slice_index kept (left_of c p k + x)
    ≡ slice_index (plane (slice_at s k).cells p)
    ((lines_down c p r - 1) * width_in c p k + x)

-- planes that are coded together: the first of them, and how many they are
pub record PlaneGroup : Type 0 where
  pub first : ℕ
  pub count : ℕ

abbrev pub plane_group : ℕ → ℕ → PlaneGroup
plane_group first count = record { first = first; count = count }

-- the same of them: the i-th of them is read next in column k
pub record TiedPlanes (c : Configuration) (planes : PlaneGroup) (k i y : ℕ)
    (lines : RollingRows (List ℕ)) (s : State) : Type 0 where
  pub done : (j : ℕ) → j < i →
      TiedLine c (planes.first + j) (j * c.width) (suc k) y lines s
  pub todo : (j : ℕ) → i ≤ j → j < planes.count →
      TiedLine c (planes.first + j) (j * c.width) k y lines s

-- what the columns tell is what was decided in their slices
pub record AreTold (t : Table) (columns : List Column) (s : State) : Type 0 where
  pub long : length s.columns ≡ length columns
  pub each : (k : ℕ) → k < length columns →
      told_by (column_at columns k).parked ≡ tally_after t (slice_at s k).past

-- the planes other than p are as before
abbrev pub SameOthers : ℕ → State → State → Type 0
SameOthers p s t =
    (k q : ℕ) → q ≢ p → plane (slice_at t k).cells q ≡ plane (slice_at s k).cells q

-- the fault of a slice that was read too far, looked at after line y of its cell in plane p
abbrev pub overread_in : Configuration → ℕ → ℕ → ℕ → ℕ → FrameFault
overread_in c r k p y = fault_in c fault.Overread r k p y 0

-- the fault of a slice that does not end after the last line of its cells
abbrev pub unended_in : Configuration → ℕ → ℕ → ℕ → ℕ → FrameFault
unended_in c r k p y = fault_in c (ending_fault (is_rice c.coder)) r k p y 0

-- the fault of a sample of which a slice before says another value
abbrev pub overlap_in : Configuration → ℕ → ℕ → ℕ → ℕ → ℕ → FrameFault
overlap_in c r k p y x = fault_in c fault.Overlap r k p y (left_of c p k + x)

module _ (a : Accepted) (coded : ℕ → List ℕ) (r next : ℕ) (payload : List ℕ) where
  -- a segment was read, and it is to be looked at whether its slice was read too far, whether
  -- slices before say other values of its samples, and, if it is the last, whether the slice ends
  -- there
  pub record SegmentMade (p offset y k : ℕ) (columns : List Column) (states two one cur : List ℕ)
      (s : State) : Type 0 where
    pub state : State
    pub row : List ℕ
    pub row_is : part_of a.configuration p offset k cur ≡ row
    pub step : IsWithin a (coded (slice_number a.configuration r k)) (slice_at state k).past →
        (IsLastLine a.configuration r p y →
        SliceEnds a (coded (slice_number a.configuration r k)) (slice_at state k).past
        (slice_at state k).bits) →
        Agrees a.configuration s r k p y (width_in a.configuration p k) row →
        StepsBy a coded s (Read r k p y) state
    pub fault : IsOverread a (coded (slice_number a.configuration r k)) (slice_at state k).past →
        FaultsWith a coded s (Read r k p y) (overread_in a.configuration r k p y) state
    pub unended : IsWithin a (coded (slice_number a.configuration r k)) (slice_at state k).past →
        IsLastLine a.configuration r p y →
        SliceGoesOn a (coded (slice_number a.configuration r k)) (slice_at state k).past
        (slice_at state k).bits →
        Agrees a.configuration s r k p y (width_in a.configuration p k) row →
        FaultsWith a coded s (Read r k p y) (unended_in a.configuration r k p y) state
    pub differs : IsWithin a (coded (slice_number a.configuration r k)) (slice_at state k).past →
        (x v : ℕ) → x < width_in a.configuration p k → Agrees a.configuration s r k p y x row →
        SaidBefore a.configuration s r k p y x v → slice_index row x ≢ v →
        FaultsWith a coded s (Read r k p y) (overlap_in a.configuration r k p y x) state
    pub columns_are : TiedColumns a coded r next payload (row_slices columns states) state
    pub line_is : Agrees a.configuration s r k p y (width_in a.configuration p k) row →
        TiedLine a.configuration p offset (suc k) y (rolling_lines two one cur) state
    pub others : SameOthers p s state
    pub same : state ≡ record s { columns = state.columns }

  -- a segment was read
  pub record StepMade (p offset y k : ℕ) (columns : List Column) (states two one cur : List ℕ)
      (s : State) : Type 0 where
    pub state : State
    pub step : StepsBy a coded s (Read r k p y) state
    pub columns_are : TiedColumns a coded r next payload (row_slices columns states) state
    pub line_is : TiedLine a.configuration p offset (suc k) y (rolling_lines two one cur) state
    pub others : SameOthers p s state
    pub same : state ≡ record s { columns = state.columns }

  -- the planes of the columns before k, and the first i in column k, were read
  abbrev pub reads_upto : ℕ → ℕ → ℕ → ℕ → ℕ → List Event
  reads_upto first count y k i =
      flat_map (column_events r (range_with_len first count) y) (range_with_len 0 k)
      ++ column_events r (range_with_len first i) y k

  pub record PlanesRead (first count y k i : ℕ) (columns : List Column)
      (states two one cur : List ℕ) (s : State) : Type 0 where
    pub state : State
    pub runs : Runs (StepsBy a coded) s (reads_upto first count y k i) state
    pub columns_are : TiedColumns a coded r next payload (row_slices columns states) state
    pub planes_are : TiedPlanes a.configuration (plane_group first count) k i y
        (rolling_lines two one cur) state
    pub same : state ≡ record s { columns = state.columns }

-- events were stopped before a line was handed over
pub record Stopped (a : Accepted) (coded : ℕ → List ℕ) (columns : List Column)
    (events : List Event) (f : FrameFault) (s : State) : Type 0 where
  pub state : State
  pub stops : Stops (StepsBy a coded) (FaultsWith a coded) s events f state
  pub told : AreTold a.table columns state
  pub lines : state.lines ≡ s.lines
  pub done : state.done ≡ s.done
