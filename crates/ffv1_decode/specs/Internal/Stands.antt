-- Where the decoder of one slice stands between two of its lines, after what was decided in it,
-- and what a line leaves of it.
use Rattle.std.specs.Prelude.{◌≡◌, ℕ, ℤ, ◌-◌, ◌*◌, Option, Some, None, List, [], ◌++◌}
use Rattle.std.specs.Prelude.{length}
use Rattle.ffv1_range.specs.declared.tally.Tally.{Tally}
use Rattle.ffv1_range.specs.Table.{Table}
use Rattle.ffv1_range.specs.Interval.{interval_of}
use Rattle.ffv1_range.specs.Reading.{Pause, At, resumed}
use Rattle.ffv1_range.specs.Symbols.{Step, shifted}
use Rattle.ffv1_range.specs.Counts.{Counted, uncounted, saturated, ones_in, zeros_in}
use Rattle.ffv1_range.specs.History.{AreBelow, decisions_after, HasStates}
use Rattle.ffv1_plane.specs.Quantisation.{contexts_of}
use Rattle.ffv1_line.specs.Cell.{Cell, cell_of}
use Rattle.ffv1_line.specs.Row.{row_steps}
use Rattle.ffv1_line.specs.Coded.{CodesRow, RefusesRow, refused_row_steps}
use Rattle.ffv1_line.specs.Coding.{RowCoding}

-- the parked decoder is where it is after past
pub record IsParked (bytes : List ℕ) (t : Table) (parked : Option Pause) (past : List Step)
    : Type 0 where
  pub pause : Pause
  pub is : parked ≡ Some pause
  pub at : At (resumed pause bytes) (interval_of (decisions_after t [] past))
  pub counted : Counted uncounted past pause.counts

-- and so are the states of the slots from base on
pub record Stands (bytes : List ℕ) (t : Table) (base : ℕ) (parked : Option Pause)
    (states : List ℕ) (past : List Step) : Type 0 where
  pub decoder : IsParked bytes t parked past
  pub has : HasStates t states base past

-- what a parked decoder tells of its decisions
abbrev pub told_by : Option Pause → Tally
told_by None = record { ones = 0; zeros = 0; renormalisations = 0 }
told_by (Some p) = record {
  ones = p.counts.ones;
  zeros = p.counts.zeros;
  renormalisations = p.renormalisations;
}

-- what there is to tell after past
abbrev pub tally_after : Table → List Step → Tally
tally_after t past = record {
  ones = saturated (ones_in past);
  zeros = saturated (zeros_in past);
  renormalisations = saturated ((interval_of (decisions_after t [] past)).count - 2);
}

-- after past, with these samples of its cell read, a line of a set's plane: its states are those
-- from base on, and first is the first slot of all states
module _ (bytes : List ℕ) (coding : RowCoding) (base first : ℕ) (past : List Step)
    (samples : List ℕ) (width y : ℕ) where
  abbrev pub cell_with_row : List ℕ → Cell
  cell_with_row row = cell_of width (samples ++ row)

  -- its line y was read
  pub record SegmentRead (parked : Option Pause) (states row : List ℕ) : Type 0 where
    pub residuals : List ℤ
    pub long : length residuals ≡ width
    pub codes : CodesRow bytes coding base past (cell_with_row row) y residuals
    pub below : AreBelow (row_steps coding.set (cell_with_row row) y 0 residuals)
        (contexts_of coding.set * 32)
    pub stands : Stands bytes coding.table first parked states
        (past ++ shifted base (row_steps coding.set (cell_with_row row) y 0 residuals))

  -- or its first samples, up to a symbol at place x that is refused
  pub record SegmentRefused (parked : Option Pause) (row : List ℕ) (x : ℕ) : Type 0 where
    pub residuals : List ℤ
    pub count : length residuals ≡ x
    pub refuses : RefusesRow bytes coding base past (cell_with_row row) y residuals
    pub told : told_by parked ≡ tally_after coding.table
        (past ++ shifted base (refused_row_steps coding.set (cell_with_row row) y residuals))
