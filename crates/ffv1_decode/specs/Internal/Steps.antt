-- What the steps of decoding a row of slices make of what is known before them. Each says it of any
-- state that is tied to what is held, and, if lines are handed over, of whatever the sink took.
use Rattle.std.specs.Prelude.{ℕ, ◌+◌, ◌*◌, ◌<◌, ◌≤◌, List, [], ◌∷◌, Result, MatchResult}
use Rattle.std.specs.List.{flat_map, range_with_len}
use Rattle.ffv1_wire.specs.Runs.{LineStep, Grows}
use Rattle.ffv1_record.specs.Accepted.{Accepted}
use Rattle.ffv1_line.specs.declared.cell.rows.RollingRows.{RollingRows}
use Rattle.ffv1_frame.specs.declared.fault.FrameFault.{FrameFault}
use Rattle.ffv1_frame.specs.Picture.{plane_count}
use Rattle.ffv1_frame.specs.Order.{column_events, line_events, series_events}
use Rattle.ffv1_frame.specs.Order.Event.{Read}
use Rattle.ffv1_frame.specs.Decoding.{State}
use Rattle.ffv1_decode.specs.declared.parts.CodedLine.{CodedLine}
use Rattle.ffv1_decode.specs.declared.parts.Segment.{Segment}
use Rattle.ffv1_decode.specs.Internal.Tied.{RowSlices, TiedColumns, TiedLine, TiedPlanes, TiedKept}
use Rattle.ffv1_decode.specs.Internal.Tied.{SegmentMade, StepMade, PlanesRead, Stopped}
use Rattle.ffv1_decode.specs.Internal.Tied.{PlaneGroup, plane_group}
use Rattle.ffv1_decode.specs.Internal.Shared.{AreAbove}
use Rattle.ffv1_decode.specs.Internal.Progress.{LineDecoded, SeriesKept, PlanesKept, FailsIn}
use Rattle.ffv1_decode.specs.Internal.Progress.{series_at, planes_events}

module _ (a : Accepted) (payload : List ℕ) where
  -- it holds of each state to which slices, and the lines about a segment, are tied
  abbrev pub OfSegment : Segment → RowSlices → RollingRows (List ℕ) →
      ((ℕ → List ℕ) → ℕ → State → Type 0) → Type 0
  OfSegment g slices lines Holds =
      (coded : ℕ → List ℕ) (next : ℕ) (s : State) → g.plane < next →
      TiedColumns a coded g.row next payload slices s →
      TiedLine a.configuration g.plane (g.index * a.configuration.width) g.column g.y lines s →
      Holds coded next s

  -- a segment is read: row is the lowest of the lines about it after that
  abbrev pub ReadsSegment : Segment → RowSlices → RowSlices → RollingRows (List ℕ) → List ℕ →
      Result (Unit {0}) FrameFault → Type 0
  ReadsSegment g old new lines row result =
      OfSegment g old lines (λ coded next s. MatchResult result
      (λ _. SegmentMade a coded g.row next payload g.plane (g.index * a.configuration.width) g.y
      g.column new.columns new.states lines.two lines.one row s)
      (λ f. Stopped a coded new.columns (Read g.row g.column g.plane g.y ∷ []) f s))

  -- and it is looked at, beside what is kept of its line
  abbrev pub StepsSegment : Segment → RowSlices → RowSlices → RollingRows (List ℕ) → List ℕ →
      List ℕ → Result (Unit {0}) FrameFault → Type 0
  StepsSegment g old new lines kept row result =
      OfSegment g old lines (λ coded next s.
      TiedKept a.configuration g.row g.plane g.y kept s → MatchResult result
      (λ _. StepMade a coded g.row next payload g.plane (g.index * a.configuration.width) g.y
      g.column new.columns new.states lines.two lines.one row s)
      (λ f. Stopped a coded new.columns (Read g.row g.column g.plane g.y ∷ []) f s))

  -- it holds of each state to which slices, and the lines about a line, are tied
  abbrev pub OfLine : CodedLine → RowSlices → RollingRows (List ℕ) → List ℕ →
      ((ℕ → List ℕ) → ℕ → State → Type 0) → Type 0
  OfLine line slices lines kept Holds =
      (coded : ℕ → List ℕ) (next : ℕ) (s : State) → line.first + line.count ≤ next →
      TiedColumns a coded line.row next payload slices s →
      TiedPlanes a.configuration (plane_group line.first line.count) 0 0 line.y lines s →
      ((i : ℕ) → i < line.count →
      TiedKept a.configuration line.row (line.first + i) line.y kept s) →
      Holds coded next s

  -- a line is read
  abbrev pub ReadsLine : CodedLine → RowSlices → RowSlices → RollingRows (List ℕ) → List ℕ →
      List ℕ → Result (Unit {0}) FrameFault → Type 0
  ReadsLine line old new lines kept row result =
      OfLine line old lines kept (λ coded next s. MatchResult result
      (λ _. PlanesRead a coded line.row next payload line.first line.count line.y
      a.configuration.columns 0 new.columns new.states lines.two lines.one row s)
      (λ f. Stopped a coded new.columns
      (flat_map (column_events line.row (range_with_len line.first line.count) line.y)
      (range_with_len 0 a.configuration.columns)) f s))

  -- it is decoded: read, made, and handed over
  abbrev pub DecodesLine : {S : Type 0} → LineStep S → LineStep S → CodedLine → RowSlices →
      RowSlices → RollingRows (List ℕ) → List ℕ → List ℕ → S → S →
      Result (Unit {0}) FrameFault → Type 0
  DecodesLine {S = S} takes refuses line old new lines kept row before after result =
      OfLine line old lines kept (λ coded next s. (initial : S) →
      Grows takes initial s.lines before → MatchResult result
      (λ _. LineDecoded takes refuses a coded initial line.row next payload line.first line.count
      line.y new.columns new.states lines.one row after s)
      (λ f. FailsIn takes refuses a coded initial line.row new.columns
      (line_events a.configuration line.row (range_with_len line.first line.count) line.y) f
      after s))

  -- it holds of each state to which slices of row r are tied, and what is kept of planes
  abbrev pub OfSeries : {S : Type 0} → LineStep S → ℕ → PlaneGroup → RowSlices → List ℕ → S →
      ((ℕ → List ℕ) → S → State → Type 0) → Type 0
  OfSeries {S = S} takes r planes slices kept before Holds =
      (coded : ℕ → List ℕ) (initial : S) (s : State) →
      TiedColumns a coded r planes.first payload slices s →
      ((i y : ℕ) → i < planes.count →
      TiedKept a.configuration r (planes.first + i) y kept s) →
      Grows takes initial s.lines before → Holds coded initial s

  -- the lines of planes that are coded together are decoded, and what is kept is the last of them
  abbrev pub DecodesSeries : {S : Type 0} → LineStep S → LineStep S → ℕ → PlaneGroup → RowSlices →
      RowSlices → List ℕ → List ℕ → S → S → Result (Unit {0}) FrameFault → Type 0
  DecodesSeries takes refuses r planes old new kept last before after result =
      OfSeries takes r planes old kept before (λ coded initial s. MatchResult result
      (λ _. SeriesKept takes refuses a coded initial r payload planes.first planes.count
      new.columns new.states last after s)
      (λ f. FailsIn takes refuses a coded initial r new.columns
      (series_events a.configuration r
      (series_at a.configuration r planes.first planes.count)) f after s))

  -- it holds of each state to which slices of row r are tied, and what is kept of chroma
  abbrev pub OfPlanes : {S : Type 0} → LineStep S → ℕ → RowSlices → List ℕ → S →
      ((ℕ → List ℕ) → S → State → Type 0) → Type 0
  OfPlanes {S = S} takes r slices kept before Holds =
      (coded : ℕ → List ℕ) (initial : S) (s : State) →
      TiedColumns a coded r 0 payload slices s → AreAbove a.configuration r kept s →
      Grows takes initial s.lines before → Holds coded initial s

  -- the planes of row r are decoded
  abbrev pub DecodesPlanes : {S : Type 0} → LineStep S → LineStep S → ℕ → RowSlices → RowSlices →
      List ℕ → List ℕ → S → S → Result (Unit {0}) FrameFault → Type 0
  DecodesPlanes takes refuses r old new kept last before after result =
      OfPlanes takes r old kept before (λ coded initial s. MatchResult result
      (λ _. PlanesKept takes refuses a coded initial r (plane_count a.configuration) payload
      (planes_events a.configuration r) new.columns new.states last after s)
      (λ f. FailsIn takes refuses a coded initial r new.columns (planes_events a.configuration r)
      f after s))
