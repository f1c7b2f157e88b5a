-- What is known of a line that was handed over, however far decoding has come: the bytes of the
-- slices code the lines that it is made of.
use Rattle.std.specs.Prelude.{◌≡◌, ◌⊎◌, ℕ, ◌+◌, ◌<◌, true, List, [], ◌∷◌, ◌++◌, map, length, Ok}
use Rattle.std.specs.Prelude.{slice_index}
use Rattle.std.proofs.Common.{get_or}
use Rattle.std.specs.List.{All, Contains, flat_map, range_with_len}
use Rattle.ffv1_wire.specs.Runs as wire
use Rattle.ffv1_wire.specs.Runs.{Grows, LineStep}
use Rattle.ffv1_record.specs.Configuration.{Configuration, is_rct}
use Rattle.ffv1_record.specs.Accepted.{Accepted}
use Rattle.ffv1_slice.specs.Cutting.{coded_of, CutsTo}
use Rattle.ffv1_slice.specs.Footer.{foot_length}
use Rattle.ffv1_frame.specs.Picture.{plane, plane_count}
use Rattle.ffv1_frame.specs.Decoding.{State, Slice, Finishes, unread, slice_number, own_row}
use Rattle.ffv1_frame.specs.Decoding.{top_of}
use Rattle.ffv1_frame.specs.Answer.{slices_in}
use Rattle.ffv1_frame.specs.Known.{IsBegun}

-- the slices of a state by their numbers
abbrev pub slice_of : State → ℕ → Slice
slice_of s n = get_or (slices_in s) n unread

-- line y of plane p, of the slices of row r side by side
abbrev pub line_across : Configuration → (ℕ → Slice) → ℕ → ℕ → ℕ → List ℕ
line_across c slice r y p =
    flat_map (λ k. own_row c p k y (plane (slice (slice_number c r k)).cells p))
    (range_with_len 0 c.columns)

-- the bytes of slice n code the first of its lines, and line y of plane p is one of them
pub record CodesLine (a : Accepted) (coded : ℕ → List ℕ) (n p y : ℕ) (q : Slice) : Type 0 where
  pub begun : IsBegun a coded n q
  pub among : Contains begun.read (record { plane = p; y = y })

-- a line is the finish of line y of some planes, for RCT of all, of a row of slices whose bytes
-- code that line of each of these planes
pub record IsFinishOf (a : Accepted) (coded : ℕ → List ℕ) (slice : ℕ → Slice) (l : wire.Line)
    : Type 0 where
  pub row : ℕ
  pub y : ℕ
  pub planes : List ℕ
  pub in_rct : is_rct a.configuration.colour ≡ true →
      planes ≡ range_with_len 0 (plane_count a.configuration)
  pub codes : (k i : ℕ) → k < a.configuration.columns → i < length planes →
      CodesLine a coded (slice_number a.configuration row k) (get_or planes i 0) y
      (slice (slice_number a.configuration row k))
  pub out : List (List ℕ)
  pub finishes :
      Finishes a.configuration (map (line_across a.configuration slice row y) planes) out
  pub number : ℕ
  pub inside : number < length planes
  pub is : l ≡ record {
    plane = get_or planes number 0;
    row = top_of a.configuration (get_or planes number 0) row + y;
    samples = get_or out number [];
  }

-- the line that a state hands over next, which is the i-th of some planes
abbrev pub offered : Configuration → ℕ → ℕ → ℕ → ℕ → State → wire.Line
offered c r i p y s = record {
  plane = p;
  row = top_of c p r + y;
  samples = get_or s.out i [];
}

-- a payload is cut, and lines are the finishes of what the bytes of its slices code
pub record AreFinishesOf (a : Accepted) (payload : List ℕ) (lines : List wire.Line) : Type 0 where
  pub offsets : List ℕ
  pub cut : CutsTo a.configuration payload (Ok offsets)
  pub slice : ℕ → Slice
  pub finish : All
      (IsFinishOf a (coded_of payload (foot_length a.configuration.ec) (slice_index offsets)) slice)
      lines

-- what a sink was handed of a payload: nothing, or lines of that kind, of which it may have refused
-- the last
abbrev pub HandsFinishes : {S : Type 0} → LineStep S → LineStep S → Accepted → List ℕ → S → S →
    Type 0
HandsFinishes {S = S} takes refuses a payload old new =
    (new ≡ old)
    ⊎ ((lines : List wire.Line) × AreFinishesOf a payload lines × Grows takes old lines new)
    ⊎ ((lines : List wire.Line) × (next : wire.Line)
    × AreFinishesOf a payload (lines ++ (next ∷ []))
    × (between : S) × Grows takes old lines between
    × refuses between next.plane next.row next.samples new)
