-- What the start, the key and the head of a slice leave of its decoder.
use Rattle.std.specs.Prelude.{◌≡◌, ◌⊎◌, ℕ, ◌*◌, ◌<◌, ◌≤◌, Option, Some, None, List}
use Rattle.std.specs.Prelude.{[], ◌++◌, length, replicate, map, slice_index}
use Rattle.std.proofs.Common.{suc}
use Rattle.std.specs.List.{range_with_len}
use Rattle.ffv1_range.specs.Reading.{Reading, At}
use Rattle.ffv1_range.specs.Symbols.{Step, shifted}
use Rattle.ffv1_range.specs.Counts.{Counted, uncounted}
use Rattle.ffv1_range.specs.Interval.{interval_of}
use Rattle.ffv1_range.specs.History.{decisions_after}
use Rattle.ffv1_record.specs.Accepted.{Accepted}
use Rattle.ffv1_slice.specs.Footer.{foot_length}
use Rattle.ffv1_slice.specs.Cutting.{Cut, Cuts, coded_of}
use Rattle.ffv1_slice.specs.declared.head.SliceHead.{SliceHead}
use Rattle.ffv1_slice.specs.declared.fault.SliceFault.{SliceFault}
use Rattle.ffv1_slice.specs.declared.fault.SliceFault.TheVariants as slice
use Rattle.ffv1_slice.specs.Head.{CodesHead, RefusesHead, RefusesKey, key_steps, head_steps, no_key}
use Rattle.ffv1_decode.specs.declared.column.Column.{Column}
use Rattle.ffv1_frame.specs.declared.fault.CodecFault.{CodecFault}
use Rattle.ffv1_frame.specs.declared.fault.FrameFault.{FrameFault}
use Rattle.ffv1_frame.specs.Overread.{IsWithin}
use Rattle.ffv1_frame.specs.SliceList.{Said, said_by}
use Rattle.ffv1_frame.specs.Runs.{Runs, Stops}
use Rattle.ffv1_frame.specs.Order.Event.{Open}
use Rattle.ffv1_frame.specs.Decoding.{State, AgreesWith, RefusesOpen, StepsBy, FaultsWith, of_slice}
use Rattle.ffv1_frame.specs.Decoding.{slice_at, slice_number, opened, unread}
use Rattle.ffv1_decode.specs.Internal.Stands.{Stands, told_by, tally_after}
use Rattle.ffv1_decode.specs.Internal.Tied.{AreTold, bytes_in, column_at}

-- the offsets are those of the slices of a payload
pub record IsCutOf (a : Accepted) (payload : List ℕ) (cut : Cut) : Type 0 where
  pub cuts : Cuts a.configuration payload (slice_index cut.offsets)
  pub long : length cut.offsets ≡ suc (a.configuration.columns * a.configuration.rows)
  pub foot : cut.foot ≡ foot_length a.configuration.ec

-- the coded bytes of each slice
abbrev pub coded_by : Accepted → List ℕ → Cut → ℕ → List ℕ
coded_by a payload cut = coded_of payload (foot_length a.configuration.ec) (slice_index cut.offsets)

-- a decoder that began with nothing read these steps of a slice
pub record Begun (a : Accepted) (old new : Reading) (steps : List Step) : Type 0 where
  pub bytes : new.bytes ≡ old.bytes
  pub at : At new (interval_of (decisions_after a.table [] steps))
  pub counted : Counted uncounted steps new.counts

-- it read the key and the head
pub record HeadRead (a : Accepted) (n : ℕ) (old new : Reading) (h : SliceHead) : Type 0 where
  pub codes : CodesHead old.bytes a.table a.profile a.configuration n h
  pub begun : Begun a old new (key_steps n ++ head_steps a.configuration n h)

-- or was refused in them
pub record HeadRefused (a : Accepted) (n : ℕ) (old new : Reading) (f : CodecFault) : Type 0 where
  pub steps : List Step
  pub why : ((f ≡ of_slice slice.NotKey) × RefusesKey old.bytes a.table n × (steps ≡ no_key))
      ⊎ ((g : SliceFault) × (more : List Step)
      × RefusesHead old.bytes a.table a.profile a.configuration n g more × (f ≡ of_slice g)
      × (steps ≡ key_steps n ++ shifted 1 more))
  pub begun : Begun a old new steps

-- slice n was opened in a column, after what the first slice said
pub record ColumnOpened (a : Accepted) (coded : ℕ → List ℕ) (payload : List ℕ) (n : ℕ)
    (column : Column) (old new : Option Said) : Type 0 where
  pub head : SliceHead
  pub codes : CodesHead (coded n) a.table a.profile a.configuration n head
  pub within : IsWithin a (coded n) (key_steps n ++ head_steps a.configuration n head)
  pub agrees : AgreesWith old (said_by a.profile head)
  pub says : new ≡ Some (said_by a.profile head)
  pub bytes_are : bytes_in payload column ≡ coded n
  pub indexes : column.indexes ≡ head.indexes
  pub stands : (slots : ℕ) → Stands (coded n) a.table 33 column.parked (replicate slots 128)
      (key_steps n ++ head_steps a.configuration n head)
  pub bits : column.bits ≡ None
  pub index : column.index ≡ 0

-- or was refused
pub record ColumnRefused (a : Accepted) (coded : ℕ → List ℕ) (n : ℕ) (column : Column)
    (old : Option Said) (f : CodecFault) : Type 0 where
  pub steps : List Step
  pub refuses : RefusesOpen a coded old n f steps
  pub told : told_by column.parked ≡ tally_after a.table steps

-- the slice of column k, as it was opened
pub record IsOpened (a : Accepted) (coded : ℕ → List ℕ) (payload : List ℕ) (r k : ℕ)
    (column : Column) (s : State) : Type 0 where
  pub head : SliceHead
  pub slice_is : slice_at s k ≡ opened a coded (slice_number a.configuration r k) head
  pub bytes_are : bytes_in payload column ≡ coded (slice_number a.configuration r k)
  pub indexes : column.indexes ≡ head.indexes
  pub stands : (slots : ℕ) → Stands (coded (slice_number a.configuration r k)) a.table 33
      column.parked (replicate slots 128) (slice_at s k).past
  pub bits : column.bits ≡ None
  pub index : column.index ≡ 0

-- the columns of a row, and what the first slice said
pub record RowHeads : Type 0 where
  pub columns : List Column
  pub first : Option Said

abbrev pub row_heads : List Column → Option Said → RowHeads
row_heads columns first = record { columns = columns; first = first }

-- the first n slices of a row were opened
pub record RowOpened (a : Accepted) (coded : ℕ → List ℕ) (payload : List ℕ) (r n : ℕ)
    (heads : RowHeads) (s : State) : Type 0 where
  pub state : State
  pub runs : Runs (StepsBy a coded) s (map (Open r) (range_with_len 0 n)) state
  pub same : state ≡ record s { columns = state.columns; info = heads.first }
  pub told : AreTold a.table heads.columns state
  pub each : (k : ℕ) → k < n →
      IsOpened a coded payload r k (column_at heads.columns k) state
  pub later : (k : ℕ) → n ≤ k → k < a.configuration.columns → slice_at state k ≡ unread

-- one was refused
pub record RowRefused (a : Accepted) (coded : ℕ → List ℕ) (r n : ℕ) (columns : List Column)
    (f : FrameFault) (s : State) : Type 0 where
  pub state : State
  pub stops : Stops (StepsBy a coded) (FaultsWith a coded) s
      (map (Open r) (range_with_len 0 n)) f state
  pub told : AreTold a.table columns state
  pub lines : state.lines ≡ s.lines
  pub done : state.done ≡ s.done
