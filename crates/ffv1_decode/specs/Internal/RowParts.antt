-- What is asked of a row of slices while it is decoded: of its slices, of planes that are coded
-- together, of a line of these, and of the segment of a line that lies in one slice.
use Rattle.std.specs.Prelude.{◌≡◌, ℕ, ◌+◌, ◌-◌, ◌*◌, ◌<◌, ◌≤◌, length}
use Rattle.ffv1_record.specs.Configuration.{Configuration}
use Rattle.ffv1_slice.specs.Grid.{division_of, down, shared_of}
use Rattle.ffv1_frame.specs.Order.{lines_down}
use Rattle.ffv1_frame.specs.Picture.{plane_count}
use Rattle.ffv1_decode.specs.declared.buffers.Slices.{Slices}
use Rattle.ffv1_decode.specs.declared.parts.Frame.{Frame}
use Rattle.ffv1_decode.specs.declared.parts.CodedLine.{CodedLine}
use Rattle.ffv1_decode.specs.declared.parts.Segment.{Segment}
use Rattle.ffv1_decode.specs.Internal.Finished.{IsTogether}
use Rattle.ffv1_decode.specs.Internal.LeftBits.{AreKept}
use Rattle.ffv1_decode.specs.Internal.Shared.{KeepsChroma}
use Rattle.ffv1_decode.specs.Internal.Tied.{IsFrame, AreOpen, RowSlices, row_slices, row_slots}
use Rattle.ffv1_decode.specs.Internal.Tied.{line_length}

-- the vectors of the slices of a row
abbrev pub slices_of : {A : Type 0} → Slices A → RowSlices
slices_of v = row_slices v.columns.items v.states.items

-- they are those of row r of a frame, and each of the slices is open
pub record IsRow {A : Type 0} (f : Frame A) (r : ℕ) (slices : RowSlices) : Type 0 where
  pub frame : IsFrame f
  pub row : r < f.checked.now.configuration.rows
  pub many : length slices.columns ≡ f.checked.now.configuration.columns
  pub opened : AreOpen f.payload.now f.checked.now.configuration.sets slices.columns
  pub room : length slices.states ≡ row_slots f.checked.now.configuration
  pub held : AreKept f.checked.now slices.states

-- so many planes from the first on are coded together
pub record ArePlanes (c : Configuration) (first count : ℕ) : Type 0 where
  pub together : IsTogether c first count
  pub inside : first + count ≤ plane_count c
  pub some : 0 < count
  pub few : first + count ≤ 4

-- a line of such planes, each of which has it in its row of slices
pub record IsLine (c : Configuration) (line : CodedLine) : Type 0 where
  pub planes : ArePlanes c line.first line.count
  pub shared : line.shared ≡ shared_of (down (division_of c) line.first) line.row
  pub y : (i : ℕ) → i < line.count → line.y < lines_down c (line.first + i) line.row
  pub height : (i : ℕ) → i < line.count → line.height ≡ lines_down c (line.first + i) line.row

-- a segment of a line, in a plane that is coded with at most three others
pub record IsSegment (c : Configuration) (segment : Segment) : Type 0 where
  pub column : segment.column < c.columns
  pub plane : segment.plane < plane_count c
  pub few : segment.index < 4
  pub y : segment.y < lines_down c segment.plane segment.row
  pub height : segment.height ≡ lines_down c segment.plane segment.row

-- the same holds of how many samples the two lines above a line have, and that line
pub record AreLong (Holds : ℕ → Type 0) (upper lower line : ℕ) : Type 0 where
  pub two : Holds upper
  pub one : Holds lower
  pub cur : Holds line

-- so many samples are those of the lines that a row is decoded in: three lines of planes that are
-- coded together, and what is kept of chroma
pub record HasLines (c : Configuration) (long : ℕ) : Type 0 where
  pub rolling : 3 * line_length c ≤ long
  pub kept : KeepsChroma c (long - 3 * line_length c)
