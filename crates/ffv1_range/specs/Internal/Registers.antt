-- What ties the registers of the coder to the definitions. The contracts of the calls inside cite
-- it; a caller of the crate needs none of it.
use Rattle.std.specs.Prelude.{◌≡◌, ℕ, ◌+◌, ◌-◌, ◌*◌, ◌/◌, ◌^◌, ◌≤◌, ◌<◌, false, min, List, length}
use Rattle.std.specs.Prelude.{slice_index}
use Rattle.ffv1_range.specs.Interval.{Interval, narrowed}
use Rattle.ffv1_range.specs.Codes.{value, AreBytes, AreStates}
use Rattle.ffv1_range.specs.Counts.{uncounted}
use Rattle.ffv1_range.specs.Table.{Table}
use Rattle.ffv1_range.specs.Symbols.{Step, moved_by, decided}
use Rattle.ffv1_range.specs.Reading.{Reading, At}
use Rattle.ffv1_range.specs.Writing.{Writing}
use Rattle.ffv1_range.specs.declared.encoder.marked.Holding.{Holding}

-- where each state that is held goes after a 1, and 256 times where it goes after a 0
abbrev pub AreEither : ℕ → List ℕ → List ℕ → List ℕ → Type 0
AreEither floor one zero either = (state : ℕ) → floor ≤ state → state + floor ≤ 256 →
    slice_index either state ≡ slice_index one state + 256 * slice_index zero state

-- where each state that is held goes after a 0, beside where it goes after a 1
abbrev pub AreZeros : ℕ → List ℕ → List ℕ → Type 0
AreZeros floor one zero = (state : ℕ) → floor ≤ state → state + floor ≤ 256 →
    slice_index zero state ≡ 256 - slice_index one (256 - state)

-- where each state that is held goes after a 0, and 256 places after it after a 1
pub record AreNext (floor : ℕ) (one zero next : List ℕ) : Type 0 where
  pub zeros : (state : ℕ) → floor ≤ state → state + floor ≤ 256 →
      slice_index next state ≡ slice_index zero state
  pub ones : (state : ℕ) → floor ≤ state → state + floor ≤ 256 →
      slice_index next (256 + state) ≡ slice_index one state

-- what holds of each decoder
pub record IsReading (width gap : ℕ) : Type 0 where
  pub least : 256 ≤ width
  pub most : width ≤ 65280
  pub some : 0 < gap
  pub within : gap ≤ width

-- the decoder read these steps, moved the states by them, and has not counted them yet
pub record Reads (t : Table) (old : Reading) (states : List ℕ) (new : Reading) (after : List ℕ)
    (steps : List Step) : Type 0 where
  pub bytes : new.bytes ≡ old.bytes
  pub at : (i : Interval) → At old i → At new (narrowed i (decided t states steps))
  pub counts : new.counts ≡ old.counts
  pub moves : after ≡ moved_by t states steps
  pub named : AreStates (decided t states steps)

-- if these steps had been read before, those are read now
abbrev pub ReadsOn : Table → Reading → List ℕ → Reading → List ℕ → List Step → List Step → Type 0
ReadsOn t old states new after before steps = (first : Reading) (fresh : List ℕ) →
    Reads t first fresh old states before → Reads t first fresh new after steps

-- the interval of an encoder whose low end has these bytes and, two places lower, low
abbrev pub interval_from : List ℕ → ℕ → ℕ → Interval
interval_from bytes low width = record {
  low = 65536 * value bytes (length bytes) + low;
  width = width;
  count = length bytes + 2;
}

-- an encoder of this interval, before its counts
abbrev pub standing : Interval → Writing
standing i = record { interval = i; counts = uncounted; failed = false }

-- what holds of each encoder: a carry that is still in low does not leave the first byte
pub record IsWriting (bytes : List ℕ) (low width : ℕ) : Type 0 where
  pub bytes_fit : AreBytes bytes
  pub below : low + width ≤ 131072
  pub least : 256 ≤ width
  pub most : width ≤ 65280
  pub room : 65536 * value bytes (length bytes) + low + width ≤ 65536 * 256 ^ length bytes

-- what holds of the part of a decision, before it is renormalised
pub record IsChosen (bytes : List ℕ) (low width : ℕ) : Type 0 where
  pub bytes_fit : AreBytes bytes
  pub below : low + width ≤ 131072
  pub least : 0 < width
  pub most : width ≤ 65280
  pub room : 65536 * value bytes (length bytes) + low + width ≤ 65536 * 256 ^ length bytes

-- an interval was narrowed by these steps, and the states moved; they are not counted yet
pub record Writes (t : Table) (old : Writing) (states : List ℕ) (new : Writing) (after : List ℕ)
    (steps : List Step) : Type 0 where
  pub interval : new.interval ≡ narrowed old.interval (decided t states steps)
  pub counts : new.counts ≡ old.counts
  pub failed : new.failed ≡ old.failed
  pub moves : after ≡ moved_by t states steps
  pub named : AreStates (decided t states steps)

-- the interval of an encoder that holds bytes back: so many of its low end are still in low
abbrev pub interval_held : List ℕ → ℕ → ℕ → ℕ → Interval
interval_held bytes low width held = record {
  low = 65536 * (256 ^ held * value bytes (length bytes)) + low;
  width = width;
  count = length bytes + 2 + held;
}

-- the same of one that holds them in registers
abbrev pub interval_of_holding : List ℕ → Holding → Interval
interval_of_holding bytes h = interval_held bytes h.low h.width h.held

-- what holds of it: as of each encoder, with room for a carry through what is held back
pub record IsHolding (bytes : List ℕ) (low width held : ℕ) : Type 0 where
  pub bytes_fit : AreBytes bytes
  pub few : held ≤ 4
  pub below : low + width ≤ 131072 * 256 ^ held
  pub least : 256 ≤ width
  pub most : width ≤ 65280
  pub room : 65536 * (256 ^ held * value bytes (length bytes)) + low + width ≤
      65536 * (256 ^ held * 256 ^ length bytes)

-- what holds of the part of a decision, before it is renormalised
pub record IsHoldingPart (bytes : List ℕ) (low width held : ℕ) : Type 0 where
  pub bytes_fit : AreBytes bytes
  pub few : held ≤ 3
  pub below : low + width ≤ 131072 * 256 ^ held
  pub least : 0 < width
  pub most : width ≤ 65280
  pub room : 65536 * (256 ^ held * value bytes (length bytes)) + low + width ≤
      65536 * (256 ^ held * 256 ^ length bytes)

-- A low end is marked if one bit more stands above it, eight places further up for each byte
-- that is held back. How many those are, of four at most:
unfoldable pub held_in : ℕ → ℕ
held_in marked = min (marked / 2 ^ 39) 1 + min (marked / 2 ^ 47) 1 + min (marked / 2 ^ 55) 1 +
    min (marked / 2 ^ 63) 1

-- the mark itself
unfoldable pub mark_of : ℕ → ℕ
mark_of held = 2 ^ 31 * 256 ^ held

-- the low end below it
unfoldable pub low_in : ℕ → ℕ
low_in marked = marked - mark_of (held_in marked)

-- the interval of an encoder whose low end is marked
abbrev pub interval_marked : List ℕ → ℕ → ℕ → Interval
interval_marked bytes marked width = interval_held bytes (low_in marked) width (held_in marked)

-- what holds of it
pub record IsMarked (bytes : List ℕ) (marked width : ℕ) : Type 0 where
  pub some : 2 ^ 31 ≤ marked
  pub holding : IsHolding bytes (low_in marked) width (held_in marked)

-- what holds of the part of a decision, before it is renormalised
pub record IsMarkedPart (bytes : List ℕ) (marked width : ℕ) : Type 0 where
  pub some : 2 ^ 31 ≤ marked
  pub part : IsHoldingPart bytes (low_in marked) width (held_in marked)
