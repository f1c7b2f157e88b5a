-- What is known of a slice while a frame is decoded: its bytes code what was read of it.
use Rattle.std.specs.Prelude.{◌≡◌, ◌⊎◌, ℕ, ◌%◌, ◌<◌, Bool, List, [], ◌∷◌, ◌++◌}
use Rattle.ffv1_range.specs.Codes.{Codes}
use Rattle.ffv1_range.specs.Symbols.{Step}
use Rattle.ffv1_range.specs.History.{decisions_after}
use Rattle.ffv1_line.specs.Cell.{Cell, cell_of}
use Rattle.ffv1_record.specs.Configuration.{Configuration}
use Rattle.ffv1_record.specs.Accepted.{Accepted}
use Rattle.ffv1_record.specs.Accepted.{is_rice}
use Rattle.ffv1_slice.specs.Head.{IsHead, key_steps, head_steps}
use Rattle.ffv1_frame.specs.Overread.{IsWithin}
use Rattle.ffv1_frame.specs.Picture.{plane}
use Rattle.ffv1_frame.specs.SliceList.{Line, lines_in}
use Rattle.ffv1_frame.specs.CodedSlice.{IsBodyOf}
use Rattle.ffv1_frame.specs.RiceLines.{ByCoder, fresh_coder, lines_after, rice_bits}
use Rattle.ffv1_frame.specs.Ending.{IsBehind}
use Rattle.ffv1_frame.specs.Decoding.{Slice, width_in}

-- the cells of slice n, by the samples that were read of them
abbrev pub cells_of : Configuration → ℕ → Slice → ℕ → Cell
cells_of c n q p = cell_of (width_in c p (n % c.columns)) (plane q.cells p)

-- the bits that were read of slice n are those of these lines, as it knows them, and its bytes
-- begin with them behind what was decided in it
pub record AreBitsOf (a : Accepted) (coded : ℕ → List ℕ) (n : ℕ) (q : Slice) (read : List Line)
    : Type 0 where
  pub bits : q.bits ≡ rice_bits a.configuration q.head (cells_of a.configuration n q) read
  pub coder : q.coder
      ≡ lines_after a.configuration q.head (cells_of a.configuration n q) fresh_coder read
  pub begun : (read ≡ []) ⊎ ((rest : List Bool) × IsBehind a (coded n) q.past (q.bits ++ rest))

-- the bytes of slice n code what was decided in it, and are not read too far: its key, its head,
-- and residuals that suit the samples of these lines
pub record CodesRead (a : Accepted) (coded : ℕ → List ℕ) (n : ℕ) (q : Slice) (read : List Line)
    : Type 0 where
  pub is_head : IsHead a.profile a.configuration q.head
  pub body : List Step
  pub is_body : IsBodyOf a.configuration q.head (cells_of a.configuration n q) read body
  pub past : q.past ≡ key_steps n ++ (head_steps a.configuration n q.head ++ body)
  pub codes : Codes (coded n) (decisions_after a.table [] q.past)
  pub within : IsWithin a (coded n) q.past
  pub bits : ByCoder (is_rice a.configuration.coder) (Unit {0}) (AreBitsOf a coded n q read)

-- they are the first of its lines in the order of coding
pub record IsBegun (a : Accepted) (coded : ℕ → List ℕ) (n : ℕ) (q : Slice) : Type 0 where
  pub read : List Line
  pub more : List Line
  pub parts : lines_in a.configuration n ≡ read ++ more
  pub known : CodesRead a coded n q read

-- two families of cells show the same in these lines
abbrev pub ShowSame : (ℕ → Cell) → (ℕ → Cell) → List Line → Type 0
ShowSame c d [] = Unit {0}
ShowSame c d (l ∷ ls) =
    ((x : ℕ) → x < (c l.plane).width → (c l.plane).at x l.y ≡ (d l.plane).at x l.y)
    × ShowSame c d ls
