-- What an encoder of samples writes.
use Rattle.std.specs.Prelude.{◌≡◌, ℕ, ◌<◌, IfErr, IsTrue, Result, List, ◌++◌, length}
use Rattle.std.proofs.Common.{suc}
use Rattle.ffv1_range.specs.declared.fault.Fault.{Fault}
use Rattle.ffv1_range.specs.declared.fault.Fault.TheVariants as fault
use Rattle.ffv1_range.specs.Writing.{Writing}
use Rattle.ffv1_range.specs.Puts.{Puts, MayBeRefused}
use Rattle.ffv1_range.specs.Counts.{Counts, Counted}
use Rattle.ffv1_line.specs.Coding.{RowCoding}
use Rattle.ffv1_line.specs.Coder.{Encoder}
use Rattle.ffv1_line.specs.Above.{RowsAbove}
use Rattle.ffv1_line.specs.Cell.{Cell, Above, Shows}
use Rattle.ffv1_line.specs.Row.{row_steps, chosen_row, cell_steps, chosen_rows}

-- the encoder wrote the chosen residuals of the first n samples of a row, whatever the cell that it
-- is a row of
pub record Written (coding : RowCoding) (old new : Encoder) (above : RowsAbove) (cur : List ℕ)
    (n : ℕ) : Type 0 where
  pub puts : (c : Cell) (y : ℕ) → Above c y above.two above.one → Shows c (suc (suc y)) cur n →
      Puts coding.table old.writing old.states new.writing new.states
      (row_steps coding.set c y 0 (chosen_row coding.set coding.bits c y n))

-- an encoder that was refused memory has failed, for good
abbrev pub FailsForGood : {A : Type 0} → Result A Fault → Writing → Type 0
FailsForGood result w = IfErr result (λ f. (f ≡ fault.OutOfMemory) × IsTrue w.failed)

-- memory may be refused to an encoder of the first n samples of a row: it had failed before, or its
-- bytes are to grow, whatever the cell
pub record MayBeRefusedRow (coding : RowCoding) (old : Encoder) (above : RowsAbove)
    (cur : List ℕ) (n : ℕ) : Type 0 where
  pub may : (c : Cell) (y : ℕ) → Above c y above.two above.one → Shows c (suc (suc y)) cur n →
      MayBeRefused coding.table old.writing old.states
      (row_steps coding.set c y 0 (chosen_row coding.set coding.bits c y n))

-- the counters went on by the chosen residuals of some first samples of a row, and not of all,
-- whatever the cell
pub record CountsFirst (coding : RowCoding) (old new : Counts) (above : RowsAbove) (cur : List ℕ)
    : Type 0 where
  pub first : ℕ
  pub few : first < length cur
  pub counted : (c : Cell) (y : ℕ) → Above c y above.two above.one →
      Shows c (suc (suc y)) cur first →
      Counted old (row_steps coding.set c y 0 (chosen_row coding.set coding.bits c y first)) new

-- the counters went on by the chosen residuals of the first rows of a cell's n, and of some first
-- samples of the next one, and not of all
pub record CountsFirstRows (coding : RowCoding) (old new : Counts) (c : Cell) (n : ℕ) : Type 0 where
  pub y : ℕ
  pub x : ℕ
  pub above : y < n
  pub before : x < c.width
  pub counted : Counted old
      (cell_steps coding.set c 0 (chosen_rows coding.set coding.bits c y)
      ++ row_steps coding.set c y 0 (chosen_row coding.set coding.bits c y x)) new
