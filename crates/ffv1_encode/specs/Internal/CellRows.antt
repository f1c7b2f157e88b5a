-- What the rows of a slice's cells hold, while they are coded.
use Rattle.std.specs.Prelude.{◌≡◌, ℕ, ◌+◌, ◌*◌, ◌/◌, ◌%◌, ◌<◌, Bool, true, false, List, [], ◌∷◌}
use Rattle.std.specs.Prelude.{length, slice_index}
use Rattle.std.proofs.Common.{suc}
use Rattle.std.specs.declared.vec.Vec.{Vec}
use Rattle.ffv1_line.specs.Cell.{Cell, Above, Shows}
use Rattle.ffv1_line.specs.declared.cell.rows.RollingRows.{RollingRows}
use Rattle.ffv1_samples.specs.Samples.{sample_bytes, samples_of}
use Rattle.ffv1_record.specs.Configuration.{Configuration}
use Rattle.ffv1_slice.specs.Grid.{division_of, across, down, first_of}
use Rattle.ffv1_encode.specs.declared.cell_rows.PlaneRows.{PlaneRows}
use Rattle.ffv1_frame.specs.Picture.{Planes, sample_at, cell_in}
use Rattle.ffv1_frame.specs.SliceList.{Line}

-- the line of transparency in RCT, if there is one
abbrev pub fourth_line : Bool → ℕ → List Line
fourth_line false y = []
fourth_line true y = record { plane = 3; y = y } ∷ []

-- the bytes of line y of slice n's cell in a plane
pub record IsLine (c : Configuration) (planes : Planes) (n p y : ℕ) (line : List ℕ)
    : Type 0 where
  pub wide : length line ≡ sample_bytes c.depth * (cell_in c planes n p).width
  pub each : (x : ℕ) → x < (cell_in c planes n p).width → slice_index (samples_of c.depth line) x ≡
      sample_at c planes p (first_of (across (division_of c) p) (n % c.columns) + x)
      (first_of (down (division_of c) p) (n / c.columns) + y)

-- the rows two and one above row y of a cell, and room for that row, in words that show samples
pub record Rolled {W A : Type 0} (samples : List W → List ℕ) (c : Cell) (y : ℕ)
    (rows : RollingRows (Vec W A)) : Type 0 where
  pub above : Above c y (samples rows.two.items) (samples rows.one.items)
  pub two_long : length (samples rows.two.items) ≡ c.width
  pub cur_long : length (samples rows.cur.items) ≡ c.width

-- the same, and row y itself
pub record Loaded {W A : Type 0} (samples : List W → List ℕ) (c : Cell) (y : ℕ)
    (rows : RollingRows (Vec W A)) : Type 0 where
  pub above : Above c y (samples rows.two.items) (samples rows.one.items)
  pub two_long : length (samples rows.two.items) ≡ c.width
  pub cur_long : length (samples rows.cur.items) ≡ c.width
  pub shows : Shows c (suc (suc y)) (samples rows.cur.items) c.width

-- the same of each plane that there is in RCT
pub record AllRolled {W A : Type 0} (samples : List W → List ℕ) (c : Configuration)
    (planes : Planes) (n y : ℕ) (rows : PlaneRows W A) : Type 0 where
  pub first : Rolled samples (cell_in c planes n 0) y rows.first
  pub second : Rolled samples (cell_in c planes n 1) y rows.second
  pub third : Rolled samples (cell_in c planes n 2) y rows.third
  pub fourth : c.extra_plane ≡ true → Rolled samples (cell_in c planes n 3) y rows.fourth

pub record AllLoaded {W A : Type 0} (samples : List W → List ℕ) (c : Configuration)
    (planes : Planes) (n y : ℕ) (rows : PlaneRows W A) : Type 0 where
  pub first : Loaded samples (cell_in c planes n 0) y rows.first
  pub second : Loaded samples (cell_in c planes n 1) y rows.second
  pub third : Loaded samples (cell_in c planes n 2) y rows.third
  pub fourth : c.extra_plane ≡ true → Loaded samples (cell_in c planes n 3) y rows.fourth

-- the rows of Y, Cb and Cr
pub record ColourRows (W A : Type 0) : Type 0 where
  pub first : RollingRows (Vec W A)
  pub second : RollingRows (Vec W A)
  pub third : RollingRows (Vec W A)

abbrev pub colour_rows : {W A : Type 0} → RollingRows (Vec W A) → RollingRows (Vec W A) →
    RollingRows (Vec W A) → ColourRows W A
colour_rows first second third = record { first = first; second = second; third = third }

-- the same of the planes of red, green and blue alone
pub record ColoursRolled {W A : Type 0} (samples : List W → List ℕ) (c : Configuration)
    (planes : Planes) (n y : ℕ) (rows : ColourRows W A) : Type 0 where
  pub luma : Rolled samples (cell_in c planes n 0) y rows.first
  pub blue : Rolled samples (cell_in c planes n 1) y rows.second
  pub red : Rolled samples (cell_in c planes n 2) y rows.third

pub record ColoursLoaded {W A : Type 0} (samples : List W → List ℕ) (c : Configuration)
    (planes : Planes) (n y : ℕ) (rows : ColourRows W A) : Type 0 where
  pub luma : Loaded samples (cell_in c planes n 0) y rows.first
  pub blue : Loaded samples (cell_in c planes n 1) y rows.second
  pub red : Loaded samples (cell_in c planes n 2) y rows.third
