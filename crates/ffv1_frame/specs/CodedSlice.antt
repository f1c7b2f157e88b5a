-- What codes a slice of a picture (RFC 9043, 3.8 and 4.4 to 4.8).
use Rattle.std.specs.Prelude.{◌≡◌, ℕ, List, [], ◌++◌}
use Rattle.ffv1_range.specs.Interval.{Decision}
use Rattle.ffv1_range.specs.Codes.{Codes}
use Rattle.ffv1_range.specs.Symbols.{Step}
use Rattle.ffv1_range.specs.History.{decisions_after}
use Rattle.ffv1_line.specs.Cell.{Cell}
use Rattle.ffv1_record.specs.Configuration.{Configuration}
use Rattle.ffv1_record.specs.Accepted.{Accepted}
use Rattle.ffv1_record.specs.Accepted.{is_rice}
use Rattle.ffv1_slice.specs.declared.head.SliceHead.{SliceHead}
use Rattle.ffv1_slice.specs.Head.{IsHead, key_steps, head_steps}
use Rattle.ffv1_frame.specs.Picture.{Planes, cell_in}
use Rattle.ffv1_frame.specs.SliceList.{Line, Said, said_by, IsBody, lines_in}
use Rattle.ffv1_frame.specs.RiceLines.{ByCoder, rice_bits}
use Rattle.ffv1_frame.specs.Ending.{SliceEnds}

-- the decisions of lines: by residuals that suit their samples, and none if these are Golomb-Rice
-- coded
abbrev pub IsBodyOf :
    Configuration → SliceHead → (ℕ → Cell) → List Line → List Step → Type 0
IsBodyOf c h cell ls steps = ByCoder (is_rice c.coder) (IsBody c h cell ls steps) (steps ≡ [])

-- the bytes code slice n of a picture: its key, a head that says this, and its samples; in Wide
-- they end there
pub record CodesSlice (bytes : List ℕ) (a : Accepted) (planes : Planes) (info : Said) (n : ℕ)
    : Type 0 where
  pub head : SliceHead
  pub is_head : IsHead a.profile a.configuration head
  pub says : said_by a.profile head ≡ info
  pub body : List Step
  pub is_body : IsBodyOf a.configuration head (cell_in a.configuration planes n)
      (lines_in a.configuration n) body
  pub codes : Codes bytes (decisions_after a.table []
      (key_steps n ++ (head_steps a.configuration n head ++ body)))
  pub ending : SliceEnds a bytes (key_steps n ++ (head_steps a.configuration n head ++ body))
      (rice_bits a.configuration head (cell_in a.configuration planes n)
      (lines_in a.configuration n))

-- its decisions
abbrev pub decided_by_slice : {bytes : List ℕ} → {a : Accepted} → {planes : Planes} →
    {info : Said} → {n : ℕ} → CodesSlice bytes a planes info n → List Decision
decided_by_slice {a = a} {n = n} slice =
    decisions_after a.table []
    (key_steps n ++ (head_steps a.configuration n slice.head ++ slice.body))
