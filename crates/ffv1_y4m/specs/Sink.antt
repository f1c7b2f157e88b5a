-- A sink that writes PPM: what it is, what each line makes of it, and when a line is refused.
use Rattle.std.specs.Prelude.{◌≡◌, ◌≤◌, ℕ, ◌+◌, ◌==◌, ◌⊎◌, Bool, true, false, if◌then◌else◌, nat_lt}
use Rattle.std.specs.Prelude.{List, [], ◌∷◌, ◌++◌, length, take, Option}
use Rattle.std.specs.Io.KnownBytes.{Appends}
use Rattle.ffv1_wire.specs.Failures.{one_more}
use Rattle.ffv1_wire.specs.Writes.{AppendsBeginning}
use Rattle.ffv1_y4m.specs.Ppm.{bytes_for, image_header_text, interleaved}

-- a sink: its writer, the sizes of its images, the depth, the lines of its row that wait for those
-- after them, the row, whether a write has failed, and how many lines were refused
pub record PpmSink (W : Type 0) : Type 0 where
  pub out : W
  pub width : ℕ
  pub height : ℕ
  pub depth : ℕ
  pub kept : List (List ℕ)
  pub row : ℕ
  pub failed : Bool
  pub failures : ℕ

-- the lines that are kept, of a red and a green one, if so many came
abbrev pub kept_of : ℕ → List ℕ → List ℕ → List (List ℕ)
kept_of plane red green =
    if plane == 0 then [] else if plane == 1 then red ∷ [] else red ∷ green ∷ []

-- the line is the one that comes next: red, green, blue of each row, the rows from the top, one
-- image after the other; it has the bytes of a row of samples
abbrev pub IsNext : {W : Type 0} → PpmSink W → ℕ → ℕ → List ℕ → Type 0
IsNext s plane row samples =
    (s.failed ≡ false) × (plane ≡ length s.kept) × (row ≡ s.row)
    × (length samples ≡ bytes_for s.depth s.width)

-- the row after a row of an image
abbrev pub row_behind : ℕ → ℕ → ℕ
row_behind height row = if nat_lt (row + 1) height then row + 1 else 0

-- the text of a row, and before the first row of an image its header
abbrev pub row_text : ℕ → ℕ → ℕ → ℕ → List ℕ → List ℕ → List ℕ → List ℕ
row_text depth width height row red green blue =
    (if row == 0 then image_header_text depth width height else [])
    ++ interleaved depth red green blue

-- what a line makes the sink write: a blue one the whole row
abbrev pub text_with : ℕ → ℕ → ℕ → ℕ → List (List ℕ) → List ℕ → List ℕ
text_with depth width height row [] samples = []
text_with depth width height row (red ∷ []) samples = []
text_with depth width height row (red ∷ green ∷ more) samples =
    row_text depth width height row red green samples

abbrev pub line_text : {W : Type 0} → PpmSink W → List ℕ → List ℕ
line_text s samples = text_with s.depth s.width s.height s.row s.kept samples

-- the lines that are kept after a line, and the row that comes next
abbrev pub kept_behind : List (List ℕ) → List ℕ → List (List ℕ)
kept_behind [] samples = samples ∷ []
kept_behind (red ∷ []) samples = red ∷ samples ∷ []
kept_behind (red ∷ green ∷ more) samples = []

abbrev pub row_with : ℕ → ℕ → List (List ℕ) → ℕ
row_with height row [] = row
row_with height row (red ∷ []) = row
row_with height row (red ∷ green ∷ more) = row_behind height row

-- the sink by a line that it takes, which is the next
pub record Takes {W : Type 0} (contents : W → Option (List ℕ)) (failed : W →
    ℕ) (s : PpmSink W) (plane row : ℕ) (samples : List ℕ) (t : PpmSink W) : Type 0 where
  pub next : IsNext s plane row samples
  pub written : Appends (contents s.out) (contents t.out) (line_text s samples)
  pub same : failed t.out ≡ failed s.out
  pub sink : t ≡ record s {
    out = t.out;
    kept = kept_behind s.kept samples;
    row = row_with s.height s.row s.kept;
  }

-- the sink by a line that it refuses: it is not the next, and nothing is changed but the count; or
-- the write of the row failed, a beginning of it written, and all lines after it are refused
abbrev pub Refuses : {W : Type 0} → (W → Option (List ℕ)) → (W → ℕ) → PpmSink W → ℕ → ℕ → List ℕ →
    PpmSink W → Type 0
Refuses contents failed s plane row samples t =
    ((IsNext s plane row samples → ⊥) × (t ≡ record s { failures = one_more s.failures }))
    ⊎ (IsNext s plane row samples
    × AppendsBeginning (contents s.out) (contents t.out) (line_text s samples)
    × (failed t.out ≡ one_more (failed s.out))
    × (t ≡ record s { out = t.out; failed = true; failures = one_more s.failures }))

-- a beginning of a text is written
pub record WritesPart (old new : Option (List ℕ)) (text : List ℕ) : Type 0 where
  pub count : ℕ
  pub within : count ≤ length text
  pub written : Appends old new (take count text)
