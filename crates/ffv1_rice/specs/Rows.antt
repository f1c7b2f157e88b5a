-- What a reader of a row has read.
use Rattle.std.specs.Prelude.{ℕ, ◌≡◌, ◌-◌, ◌^◌, ◌<◌, ◌⊎◌, Bool, true, false, List, ◌∷◌, ◌++◌}
use Rattle.std.specs.Prelude.{length, slice_index, Option, Some, None, if◌then◌else◌, pos}
use Rattle.ffv1_plane.specs.Quantisation.{Set}
use Rattle.ffv1_plane.specs.Context.{size_of}
use Rattle.ffv1_line.specs.Beside.{beside}
use Rattle.ffv1_rice.specs.declared.fault.Fault.{Fault}
use Rattle.ffv1_rice.specs.declared.fault.Fault.TheVariants.{BitsEnd, BadCode}
use Rattle.ffv1_rice.specs.Bits.{binary}
use Rattle.ffv1_rice.specs.Number.{Ends, IsBad}
use Rattle.ffv1_rice.specs.States.{parameter}
use Rattle.ffv1_rice.specs.Run.{run_log, EndsInRun, LeavesRow}
use Rattle.ffv1_rice.specs.Row.{begun}
use Rattle.ffv1_rice.specs.declared.state.State.{State}
use Rattle.ffv1_rice.specs.Scalar.{scalar_bits, scalar_after}
use Rattle.ffv1_rice.specs.Row.{Coder, Place, places_of, places_bits, places_after, row_bits}
use Rattle.ffv1_rice.specs.Row.{end_bits, with_state, coded, is_zero}

-- two rows have the same first samples
pub record AgreeBelow (n : ℕ) (row other : List ℕ) : Type 0 where
  pub each : (k : ℕ) → k < n → slice_index row k ≡ slice_index other k

-- the first n samples of a row are below 2^depth
pub record AreSamples (depth n : ℕ) (row : List ℕ) : Type 0 where
  pub each : (k : ℕ) → k < n → slice_index row k < 2 ^ depth

-- what a row is read by: its set, the bits of a difference, the rows above it, the coder that it
-- begins with, and the bits that are left then
pub record Reading : Type 0 where
  pub set : Set
  pub depth : ℕ
  pub two : List ℕ
  pub one : List ℕ
  pub start : Coder
  pub text : List Bool

abbrev pub reading_of : Set → ℕ → List ℕ → List ℕ → Coder → List Bool → Reading
reading_of set depth two one start text =
    record { set = set; depth = depth; two = two; one = one; start = start; text = text }

-- the same by another coder
abbrev pub read_by : Reading → Coder → Reading
read_by r start = reading_of r.set r.depth r.two r.one start r.text

abbrev pub coder_of : (ℕ → State) → ℕ → Option ℕ → Coder
coder_of states index run = record { states = states; index = index; run = run }

-- the first x places of a row are read: what the next is coded by, and the bits that are left
pub record SoFar (r : Reading) (row : List ℕ) (x : ℕ) (c : Coder) (rest : List Bool) : Type 0 where
  pub coder : places_after r.depth r.start (places_of r.set r.depth r.two r.one row x) ≡ c
  pub text : r.text ≡ places_bits r.depth r.start (places_of r.set r.depth r.two r.one row x) ++
      rest

-- the same after a part of a run, which has no end of its own within the row
pub record Stretched (r : Reading) (row : List ℕ) (x : ℕ) (is_on : Bool) (states : ℕ → State)
    (index : ℕ) (rest : List Bool) : Type 0 where
  pub run : Option ℕ
  pub so_far : SoFar r row x (coder_of states index run) (end_bits run ++ rest)
  pub within : x < length row → run ≡ (if is_on then Some 0 else None)

-- the difference of a place is read by the state of its context, after a run or not
pub record PlaceRead (depth : ℕ) (p : Place) (is_behind : Bool) (old new : ℕ → State)
    (text rest : List Bool) : Type 0 where
  pub bits : text ≡ scalar_bits depth (old p.context) (coded is_behind p.difference) ++ rest
  pub states : new ≡ with_state old p.context (scalar_after depth (old p.context)
      (coded is_behind p.difference))
  pub some : is_behind ≡ true → is_zero p.difference ≡ false

-- all places of a row are read: the bits are its, and these states and this index are left
pub record RowRead (r : Reading) (row : List ℕ) (kept : ℕ → State) (next : ℕ)
    (rest : List Bool) : Type 0 where
  pub bits : r.text ≡ row_bits r.depth r.start (places_of r.set r.depth r.two r.one row
      (length row)) ++ rest
  pub states : (places_after r.depth r.start (places_of r.set r.depth r.two r.one row
      (length row))).states ≡ kept
  pub index : (places_after r.depth r.start (places_of r.set r.depth r.two r.one row
      (length row))).index ≡ next

-- the bits begin with those of a row of samples below 2^depth
pub record CodesRow (r : Reading) (row : List ℕ) (rest : List Bool) : Type 0 where
  pub samples : AreSamples r.depth (length row) row
  pub bits : r.text ≡ row_bits r.depth r.start (places_of r.set r.depth r.two r.one row
      (length row)) ++ rest

-- where bits are refused at a place of this context: at a difference that is in no run, at the
-- begin of a part of a run, or after a run that is broken
abbrev pub StopsAt : Coder → ℕ → List Bool → (List Bool → Type 0) →
    (Bool → List Bool → Type 0) → Type 0
StopsAt c context text InRun At =
    ((begun c.run context ≡ None) × At false text) ⊎
    (((begun c.run context ≡ Some 0) × InRun text) ⊎ ((n : ℕ) × (rest : List Bool) ×
    (begun c.run context ≡ Some n) × (text ≡ false ∷ (binary (run_log c.index) n ++ rest)) ×
    At true rest))

-- the bits begin with no difference: with no number's bits, or after a run with those of the
-- greatest difference, which would count one more
abbrev pub IsNone : ℕ → State → Bool → List Bool → Type 0
IsNone depth s is_behind text = IsBad depth (parameter s) text ⊎ ((is_behind ≡ true) ×
    ((rest : List Bool) × (text ≡ scalar_bits depth s (pos (2 ^ (depth - 1) - 1)) ++ rest)))

-- the places before x are read, and the bits end within what stands at x
pub record RowEnds (r : Reading) (row : List ℕ) (x : ℕ) : Type 0 where
  pub coder : Coder
  pub rest : List Bool
  pub so_far : SoFar r row x coder rest
  pub ends : StopsAt coder (size_of r.set (beside r.two r.one row x)) rest (EndsInRun coder.index)
      (λ is_behind text. Ends r.depth (parameter (coder.states (size_of r.set (beside r.two r.one
      row x)))) text)

-- or they are those of nothing that can stand there
pub record RowIsBad (r : Reading) (row : List ℕ) (x : ℕ) : Type 0 where
  pub coder : Coder
  pub rest : List Bool
  pub so_far : SoFar r row x coder rest
  pub bad : StopsAt coder (size_of r.set (beside r.two r.one row x)) rest (LeavesRow coder.index
      (length row - x)) (IsNone r.depth (coder.states (size_of r.set (beside r.two r.one row x))))

-- the row is refused at x for this reason
pub record IsRefused (r : Reading) (row : List ℕ) (x : ℕ) (fault : Fault) : Type 0 where
  pub ends : fault ≡ BitsEnd → RowEnds r row x
  pub bad : fault ≡ BadCode → RowIsBad r row x
