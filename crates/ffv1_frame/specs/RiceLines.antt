-- The bits of the samples of a slice, if they are Golomb-Rice coded (RFC 9043, 3.8.2 and 4.7): one
-- line after the other, in the order of coding.
use Rattle.std.specs.Prelude.{◌≡◌, ℕ, ◌==◌, if◌then◌else◌, Bool, true, false, List, [], ◌∷◌, ◌++◌}
use Rattle.std.specs.Prelude.{map}
use Rattle.std.specs.Prelude.{length}
use Rattle.std.specs.List.{range_with_len}
use Rattle.std.proofs.Common.{suc}
use Rattle.ffv1_line.specs.Cell.{Cell, seen}
use Rattle.ffv1_rice.specs.declared.state.State.{State}
use Rattle.ffv1_rice.specs.States.{fresh}
use Rattle.ffv1_rice.specs.Row.{Coder, Place, begins, places_of, places_after, row_bits}
use Rattle.ffv1_rice.specs.Rows.{Reading, reading_of}
use Rattle.ffv1_record.specs.Configuration.{Configuration, is_rct}
use Rattle.ffv1_slice.specs.declared.head.SliceHead.{SliceHead}
use Rattle.ffv1_frame.specs.SliceList.{Line, class_of, set_in, bits_of}

-- one of two, by whether samples are Golomb-Rice coded
pub record ByCoder (is_rice : Bool) (Range Rice : Type 0) : Type 0 where
  pub range : is_rice ≡ false → Range
  pub rice : is_rice ≡ true → Rice

-- what the next line is coded by: the states of each class of planes, and the index of the runs
pub record LineCoder : Type 0 where
  pub states : ℕ → ℕ → State
  pub index : ℕ

-- at the begin of a slice nothing is known
abbrev pub fresh_coder : LineCoder
fresh_coder = record { states = λ class context. fresh; index = 0 }

-- RFC 9043, 3.8.2.2.1: the index is 0 where a plane of a slice begins; in RCT it is 0 where the
-- slice begins, and goes on through the lines of all planes
abbrev pub index_at : Configuration → ℕ → ℕ → ℕ
index_at c y index = if is_rct c.colour then index else (if y == 0 then 0 else index)

-- what line y of plane p begins with
abbrev pub row_coder : Configuration → LineCoder → ℕ → ℕ → Coder
row_coder c k p y = begins (k.states (class_of p)) (index_at c y k.index)

-- a row of a cell, counted from two above it, where all samples are 0
abbrev pub shown : Cell → ℕ → List ℕ
shown cell y = map (λ x. seen cell (suc (suc x)) y) (range_with_len 0 cell.width)

-- how line y of a cell in plane p is read from these bits, by the rows above it
abbrev pub line_reading :
    Configuration → SliceHead → Cell → LineCoder → ℕ → ℕ → List Bool → Reading
line_reading c h cell k p y text =
    reading_of (set_in c h p) (bits_of c) (shown cell y) (shown cell (suc y)) (row_coder c k p y)
    text

-- the places of a row that is read so, its bits, and what is known after it
abbrev pub places_in : Reading → List ℕ → List Place
places_in r row = places_of r.set r.depth r.two r.one row (length row)

abbrev pub bits_in : Reading → List ℕ → List Bool
bits_in r row = row_bits r.depth r.start (places_in r row)

abbrev pub coder_after : Reading → List ℕ → Coder
coder_after r row = places_after r.depth r.start (places_in r row)

-- what the line behind a row of a class is coded by: the other classes are as before
abbrev pub with_row : LineCoder → ℕ → Coder → LineCoder
with_row k class r = record {
  states = λ other. if other == class then r.states else k.states other;
  index = r.index;
}

-- the bits of a line of cells, and what the next one is coded by
abbrev pub line_bits : Configuration → SliceHead → (ℕ → Cell) → LineCoder → Line → List Bool
line_bits c h cell k l =
    bits_in (line_reading c h (cell l.plane) k l.plane l.y [])
    (shown (cell l.plane) (suc (suc l.y)))

abbrev pub line_after : Configuration → SliceHead → (ℕ → Cell) → LineCoder → Line → LineCoder
line_after c h cell k l =
    with_row k (class_of l.plane)
    (coder_after (line_reading c h (cell l.plane) k l.plane l.y [])
    (shown (cell l.plane) (suc (suc l.y))))

-- the same of lines
unfoldable pub lines_bits :
    Configuration → SliceHead → (ℕ → Cell) → LineCoder → List Line → List Bool
lines_bits c h cell k [] = []
lines_bits c h cell k (l ∷ ls) =
    line_bits c h cell k l ++ lines_bits c h cell (line_after c h cell k l) ls

unfoldable pub lines_after :
    Configuration → SliceHead → (ℕ → Cell) → LineCoder → List Line → LineCoder
lines_after c h cell k [] = k
lines_after c h cell k (l ∷ ls) = lines_after c h cell (line_after c h cell k l) ls

-- the bits of the samples of a slice
abbrev pub rice_bits : Configuration → SliceHead → (ℕ → Cell) → List Line → List Bool
rice_bits c h cell ls = lines_bits c h cell fresh_coder ls
