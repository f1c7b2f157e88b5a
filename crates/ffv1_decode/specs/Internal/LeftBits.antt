-- What is kept of a slice of Golomb-Rice coded samples between two of its lines: the bits that are
-- left, the states, and the index of the runs.
use Rattle.std.specs.Prelude.{◌≡◌, ℕ, ◌+◌, ◌*◌, ◌<◌, ◌≤◌, Bool, true, Option, Some, None}
use Rattle.std.specs.Prelude.{List, [], ◌++◌, length, slice_index}
use Rattle.ffv1_range.specs.Symbols.{Step, AllHeld}
use Rattle.ffv1_plane.specs.Quantisation.{contexts_of}
use Rattle.ffv1_rice.specs.declared.state.State.{State}
use Rattle.ffv1_rice.specs.States.{IsState, fresh}
use Rattle.ffv1_rice.specs.Kept.{state_at}
use Rattle.ffv1_rice.specs.Rows.{AreSamples, IsRefused, Reading, RowRead}
use Rattle.ffv1_rice.specs.declared.fault.Fault.{Fault}
use Rattle.ffv1_record.specs.Configuration.{Configuration}
use Rattle.ffv1_record.specs.Accepted.{Accepted, is_rice}
use Rattle.ffv1_record.specs.Held.{classes_of}
use Rattle.ffv1_record.specs.Sets.{most_contexts}
use Rattle.ffv1_slice.specs.declared.head.SliceHead.{SliceHead}
use Rattle.ffv1_frame.specs.declared.fault.CodecFault.{CodecFault}
use Rattle.ffv1_frame.specs.SliceList.{bits_of, set_at}
use Rattle.ffv1_frame.specs.RiceLines.{ByCoder, LineCoder}
use Rattle.ffv1_frame.specs.Ending.{IsBehind}
use Rattle.ffv1_frame.specs.Overread.{IsWithin}
use Rattle.ffv1_frame.specs.Decoding.{Slice, CodesBits, RefusesLine, after_line, of_rice}
use Rattle.ffv1_decode.specs.declared.column.Column.{Column}
use Rattle.ffv1_decode.specs.Internal.Stands.{IsParked}

-- how many bits are left behind those that were read of a slice: it is kept once some were read
pub record AreLeft (a : Accepted) (bytes : List ℕ) (past : List Step) (read : List Bool)
    (left : Option ℕ) : Type 0 where
  pub none : left ≡ None → read ≡ []
  pub some : (n : ℕ) → left ≡ Some n →
      (rest : List Bool) × IsBehind a bytes past (read ++ rest) × (n ≡ length rest)

-- how many contexts a class of planes has in a slice
abbrev pub contexts_in : Configuration → SliceHead → ℕ → ℕ
contexts_in c h class = contexts_of (set_at c.sets (slice_index h.indexes class))

-- the states of a slice are those that its lines are coded by
pub record AreStatesOf (c : Configuration) (h : SliceHead) (states : List ℕ) (k : LineCoder)
    : Type 0 where
  pub each : (class context : ℕ) → class < classes_of c.chroma_planes c.extra_plane →
      context < contexts_in c h class →
      state_at states (class * most_contexts c.sets + context) ≡ k.states class context

-- all that is kept is that of a slice
pub record KeepsBits (a : Accepted) (bytes : List ℕ) (column : Column) (states : List ℕ)
    (q : Slice) : Type 0 where
  pub left : AreLeft a bytes q.past q.bits column.bits
  pub known : AreStatesOf a.configuration q.head states q.coder
  pub index : column.index ≡ q.coder.index

-- a slice was read up to some place, and not too far: what is looked at, if it may end there
pub record MayEnd (a : Accepted) (bytes : List ℕ) (column : Column) (q : Slice) : Type 0 where
  pub parked : IsParked bytes a.table column.parked q.past
  pub left : is_rice a.configuration.coder ≡ true → AreLeft a bytes q.past q.bits column.bits
  pub within : IsWithin a bytes q.past

-- each 32 bytes begin with a state of differences of so many bits
pub record AreAllStates (depth : ℕ) (states : List ℕ) : Type 0 where
  pub each : (n : ℕ) → 32 * n + 32 ≤ length states → IsState depth (state_at states n)

-- each is what is known before the first difference
pub record AreFresh (states : List ℕ) : Type 0 where
  pub each : (n : ℕ) → 32 * n + 32 ≤ length states → state_at states n ≡ fresh

-- states of either coder
abbrev pub AreKept : Accepted → List ℕ → Type 0
AreKept a states =
    ByCoder (is_rice a.configuration.coder) (AllHeld a.table states)
    (AreAllStates (bits_of a.configuration) states)

-- a row was read of some bits, and so many are left
pub record BitsRead (r : Reading) (row : List ℕ) (kept : ℕ → State) (index : ℕ)
    (left : Option ℕ) : Type 0 where
  pub rest : List Bool
  pub read : RowRead r row kept index rest
  pub samples : AreSamples r.depth (length row) row
  pub is : left ≡ Some (length rest)

-- or these are refused at place x
pub record BitsRefused (r : Reading) (row : List ℕ) (x : ℕ) (f : CodecFault) : Type 0 where
  pub reason : Fault
  pub is : f ≡ of_rice reason
  pub inside : x < length row
  pub samples : AreSamples r.depth x row
  pub refuses : IsRefused r row x reason

module _ (a : Accepted) (coded : ℕ → List ℕ) (n p width y : ℕ) (q : Slice) where
  -- line y of a cell was read from the bits of slice n
  pub record BitsLine (row : List ℕ) (column : Column) (states : List ℕ) : Type 0 where
    pub codes : CodesBits a coded n p width y q row
    pub kept : KeepsBits a (coded n) column states (after_line a coded q p width y [] row)

  -- or it is refused at place x
  pub record BitsStop (row : List ℕ) (x : ℕ) (f : CodecFault) : Type 0 where
    pub reason : Fault
    pub is : f ≡ of_rice reason
    pub refuses : RefusesLine a coded n p width y q row x reason
