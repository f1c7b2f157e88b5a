-- What decoding makes of a payload, whatever the sink: how much is decided of one that is decoded
-- to its end, the first fault of another, and the lines that it comes to.
use Rattle.std.specs.Prelude.{◌≡◌, ◌⊎◌, ℕ, List, [], Ok, slice_index}
use Rattle.std.proofs.Common.{inl, inr}
use Rattle.ffv1_wire.specs.Runs.{Grows, Line, LineStep}
use Rattle.ffv1_range.specs.declared.tally.Tally.{Tally}
use Rattle.ffv1_record.specs.Accepted.{Accepted}
use Rattle.ffv1_slice.specs.Cutting.{coded_of, CutsTo, IsRefused}
use Rattle.ffv1_slice.specs.Footer.{foot_length}
use Rattle.ffv1_slice.specs.declared.cutting.CutFault.{CutFault}
use Rattle.ffv1_frame.specs.declared.fault.FrameFault.{FrameFault}
use Rattle.ffv1_frame.specs.Decoding.{State, Decodes, Offers, Refuses}
use Rattle.ffv1_frame.specs.Answer.{HasDecided, cut_fault, no_tally}
use Rattle.ffv1_frame.specs.Handed.{offered}

-- a payload is decoded to its end, and so much is decided
pub record CountOf (a : Accepted) (payload : List ℕ) (tally : Tally) : Type 0 where
  pub offsets : List ℕ
  pub cut : CutsTo a.configuration payload (Ok offsets)
  pub state : State
  pub decodes : Decodes a
      (coded_of payload (foot_length a.configuration.ec) (slice_index offsets)) state
  pub decided : HasDecided a.table state tally

-- a payload that is cut has this first fault, and so much is decided before it
pub record FaultsAfterCut (a : Accepted) (payload : List ℕ) (f : FrameFault) (tally : Tally)
    : Type 0 where
  pub offsets : List ℕ
  pub cut : CutsTo a.configuration payload (Ok offsets)
  pub state : State
  pub refused : Refuses a
      (coded_of payload (foot_length a.configuration.ec) (slice_index offsets)) f state
  pub decided : HasDecided a.table state tally

-- a payload has this first fault, and so much is decided before it
abbrev pub FaultsOf : Accepted → List ℕ → FrameFault → Tally → Type 0
FaultsOf a payload f tally =
    ((g : CutFault) × IsRefused a.configuration payload g × (f ≡ cut_fault g)
    × (tally ≡ no_tally))
    ⊎ FaultsAfterCut a payload f tally

-- the lines that are handed over of a payload before its first fault
abbrev pub lines_before : {a : Accepted} → {payload : List ℕ} → {f : FrameFault} → {tally : Tally} →
    FaultsOf a payload f tally → List Line
lines_before (inl uncut) = []
lines_before (inr later) = later.state.lines

-- decoding of a payload came to a line, which is handed over next, after these
pub record OffersLine (a : Accepted) (payload : List ℕ) (lines : List Line) (next : Line)
    : Type 0 where
  pub offsets : List ℕ
  pub cut : CutsTo a.configuration payload (Ok offsets)
  pub state : State
  pub row : ℕ
  pub number : ℕ
  pub plane : ℕ
  pub line : ℕ
  pub offers : Offers a
      (coded_of payload (foot_length a.configuration.ec) (slice_index offsets))
      row number plane line state
  pub lines_are : lines ≡ state.lines
  pub next_is : next ≡ offered a.configuration row number plane line state

-- a sink took the lines of a payload before its first fault
abbrev pub TakesBefore : {S : Type 0} → LineStep S → Accepted → List ℕ → FrameFault → Tally → S →
    S → Type 0
TakesBefore takes a payload f tally old new =
    (faults : FaultsOf a payload f tally) × Grows takes old (lines_before faults) new

-- or it took lines of a payload, and refused the one that came next
pub record RefusesNext {S : Type 0} (takes refuses : LineStep S) (a : Accepted) (payload : List ℕ)
    (old new : S) : Type 0 where
  pub lines : List Line
  pub next : Line
  pub offers : OffersLine a payload lines next
  pub between : S
  pub grows : Grows takes old lines between
  pub last : refuses between next.plane next.row next.samples new
