-- What bytes code: the residuals of a row, or of the rows of a cell.
use Rattle.std.specs.Prelude.{ℕ, ◌≡◌, ◌<◌, List, [], ◌++◌, length, take, ℤ}
use Rattle.std.proofs.Common.{suc}
use Rattle.ffv1_range.specs.Interval.{Decision, interval_of}
use Rattle.ffv1_range.specs.Codes.{Codes, AreBytes, AreStates}
use Rattle.ffv1_range.specs.Table.{Table}
use Rattle.ffv1_range.specs.Symbols.{Step, decided, moved_by, shifted}
use Rattle.ffv1_range.specs.History.{decisions_after}
use Rattle.ffv1_range.specs.Reading.{At}
use Rattle.ffv1_plane.specs.Quantisation.{Set}
use Rattle.ffv1_line.specs.Coding.{RowCoding}
use Rattle.ffv1_line.specs.Coder.{Decoder}
use Rattle.ffv1_line.specs.Cell.{Cell, seen, around}
use Rattle.ffv1_line.specs.Row.{AreSuiting, row_steps, refused_steps, cell_steps}
use Rattle.ffv1_line.specs.Decoded.{RowsSuit}

-- two rows of two cells show the same first n samples
pub record AreSame (c : Cell) (y : ℕ) (d : Cell) (z n : ℕ) : Type 0 where
  pub each : (x : ℕ) → x < n →
      seen c (suc (suc x)) (suc (suc y)) ≡ seen d (suc (suc x)) (suc (suc z))

-- the decisions of the residuals of a row, and of a symbol after them that is refused
abbrev pub refused_row_steps : Set → Cell → ℕ → List ℤ → List Step
refused_row_steps set c y qs = row_steps set c y 0 qs ++ refused_steps set (around c (length qs) y)

-- after the steps of past the bytes code suiting residuals of row y, at the slots from base on
pub record CodesRow (bytes : List ℕ) (coding : RowCoding) (base : ℕ) (past : List Step)
    (c : Cell) (y : ℕ) (qs : List ℤ) : Type 0 where
  pub suits : AreSuiting coding.set coding.bits c y 0 qs
  pub codes : Codes bytes (decisions_after coding.table []
      (past ++ shifted base (row_steps coding.set c y 0 qs)))

-- the same, and then a symbol that is refused
pub record RefusesRow (bytes : List ℕ) (coding : RowCoding) (base : ℕ) (past : List Step)
    (c : Cell) (y : ℕ) (qs : List ℤ) : Type 0 where
  pub suits : AreSuiting coding.set coding.bits c y 0 qs
  pub codes : Codes bytes (decisions_after coding.table []
      (past ++ shifted base (refused_row_steps coding.set c y qs)))

-- after some decisions the bytes code these steps, by these states
pub record CodesSteps (bytes : List ℕ) (before : List Decision) (t : Table) (states : List ℕ)
    (steps : List Step) : Type 0 where
  pub named : AreStates (decided t states steps)
  pub codes : Codes bytes (before ++ decided t states steps)

-- after some decisions the bytes code suiting residuals of row y, by these states
pub record CodesRowBy (bytes : List ℕ) (before : List Decision) (coding : RowCoding)
    (states : List ℕ) (c : Cell) (y : ℕ) (qs : List ℤ) : Type 0 where
  pub suits : AreSuiting coding.set coding.bits c y 0 qs
  pub coded : CodesSteps bytes before coding.table states (row_steps coding.set c y 0 qs)

-- the same, and then a symbol that is refused
pub record RefusesRowBy (bytes : List ℕ) (before : List Decision) (coding : RowCoding)
    (states : List ℕ) (c : Cell) (y : ℕ) (qs : List ℤ) : Type 0 where
  pub suits : AreSuiting coding.set coding.bits c y 0 qs
  pub coded : CodesSteps bytes before coding.table states (refused_row_steps coding.set c y qs)

-- after some decisions the bytes code suiting residuals of the rows of a cell, by these states
pub record CodesCellBy (bytes : List ℕ) (before : List Decision) (coding : RowCoding)
    (states : List ℕ) (c : Cell) (rows : List (List ℤ)) : Type 0 where
  pub fit : AreBytes bytes
  pub suits : RowsSuit coding.set coding.bits c 0 rows
  pub coded : CodesSteps bytes before coding.table states (cell_steps coding.set c 0 rows)

-- a decoder and its states stand after the first y rows of a cell that its bytes code
pub record StandsAfter (before : List Decision) (coding : RowCoding) (states : List ℕ) (c : Cell)
    (rows : List (List ℤ)) (y : ℕ) (now : Decoder) : Type 0 where
  pub cell : CodesCellBy now.reading.bytes before coding states c rows
  pub at : At now.reading (interval_of
      (before ++ decided coding.table states (cell_steps coding.set c 0 (take y rows))))
  pub moved : now.states ≡ moved_by coding.table states (cell_steps coding.set c 0 (take y rows))
