-- What is made of a line that was read: the lines of its planes stand one after the other.
use Rattle.std.specs.Prelude.{◌≡◌, ℕ, ◌+◌, ◌*◌, ◌<◌, ◌^◌, Bool, true, false, if◌then◌else◌}
use Rattle.std.specs.Prelude.{List, map, slice_index, Result, MatchResult}
use Rattle.std.specs.List.{range_with_len}
use Rattle.ffv1_rct.specs.Lines.{AreOnlyColoursIn, HasColourAtIn}
use Rattle.ffv1_record.specs.Configuration.{Configuration, is_rct}
use Rattle.ffv1_record.specs.Accepted.{Accepted}
use Rattle.ffv1_frame.specs.Picture.{plane_count, plane_width, green_of, blue_of}
use Rattle.ffv1_frame.specs.SliceList.{bits_of}
use Rattle.ffv1_slice.specs.Grid.{division_of, across, Lies}
use Rattle.ffv1_frame.specs.declared.fault.CodecFault.TheVariants as fault
use Rattle.ffv1_frame.specs.declared.fault.FrameFault.{FrameFault}
use Rattle.ffv1_frame.specs.Decoding.{State, Finishes, FaultsWith, coded_line, fault_in}
use Rattle.ffv1_frame.specs.Order.Event.{Finish}
use Rattle.ffv1_decode.specs.declared.parts.CodedLine.{CodedLine}
use Rattle.ffv1_frame.specs.Windows.{window}
use Rattle.ffv1_decode.specs.Internal.Progress.{StandsIn}

-- the i-th of several lines of some width
abbrev pub line_at : ℕ → ℕ → List ℕ → List ℕ
line_at width i lines = window (i * width) width lines

-- how the lines of RCT stand: the bits of a sample, how many places a line has, which lines are
-- taken for green and blue, and whether there is one of transparency
pub record Colouring : Type 0 where
  pub depth : ℕ
  pub width : ℕ
  pub green : ℕ
  pub blue : ℕ
  pub extra : Bool

-- red, and green and blue in the lines after it, or the other way round, of the first n places
abbrev pub AreInOrder : Bool → ℕ → ℕ → List ℕ → List ℕ → List ℕ → List ℕ → List ℕ → List ℕ → Type 0
AreInOrder swapped depth n y cb cr red second third =
    AreOnlyColoursIn depth n y cb cr red (if swapped then third else second)
    (if swapped then second else third)

-- of samples of 8 bits; of more bits, whose green and blue may change places
abbrev pub bytes_colouring : ℕ → Bool → Colouring
bytes_colouring width extra =
    record { depth = 8; width = width; green = 1; blue = 2; extra = extra }

abbrev pub words_colouring : ℕ → ℕ → Bool → Bool → Colouring
words_colouring depth width swapped extra = record {
  depth = depth;
  width = width;
  green = if swapped then 2 else 1;
  blue = if swapped then 1 else 2;
  extra = extra;
}

-- of a configuration
abbrev pub colouring_of : Configuration → Colouring
colouring_of c = record {
  depth = c.depth;
  width = c.width;
  green = green_of c;
  blue = blue_of c;
  extra = c.extra_plane;
}

-- red, green and blue of coded lines, and transparency, if there is one
pub record AreMade (k : Colouring) (read made : List ℕ) : Type 0 where
  pub colours : AreOnlyColoursIn k.depth k.width (line_at k.width 0 read) (line_at k.width 1 read)
      (line_at k.width 2 read) (line_at k.width 0 made) (line_at k.width k.green made)
      (line_at k.width k.blue made)
  pub transparency : k.extra ≡ true → (line_at k.width 3 made ≡ line_at k.width 3 read)
      × ((x : ℕ) → x < k.width → slice_index (line_at k.width 3 read) x < 2 ^ k.depth)

-- a sample that has a colour, and transparency of so many bits
abbrev pub HasBoth : Colouring → List ℕ → ℕ → Type 0
HasBoth k read x =
    HasColourAtIn k.depth (line_at k.width 0 read) (line_at k.width 1 read)
    (line_at k.width 2 read) x
    × (k.extra ≡ true → slice_index (line_at k.width 3 read) x < 2 ^ k.depth)

-- the first place that has not
pub record IsFirstWithout (k : Colouring) (read : List ℕ) (x : ℕ) : Type 0 where
  pub inside : x < k.width
  pub before : (y : ℕ) → y < x → HasBoth k read y
  pub none : HasBoth k read x → ⊥

-- planes that are coded together: one alone, and for RCT all
abbrev pub AreTogether : Bool → Configuration → ℕ → ℕ → Type 0
AreTogether false c first count = (count ≡ 1) × (first < plane_count c)
AreTogether true c first count = (first ≡ 0) × (count ≡ plane_count c)

abbrev pub IsTogether : Configuration → ℕ → ℕ → Type 0
IsTogether c first count = AreTogether (is_rct c.colour) c first count

-- what was read of line y stands in a rolling line, each sample of as many bits as it is coded with
pub record StandRead (c : Configuration) (first count y : ℕ) (read : List ℕ) (s : State)
    : Type 0 where
  pub lines : (i : ℕ) → i < count →
      coded_line c s y (first + i) ≡ window (i * c.width) (plane_width c (first + i)) read
  pub small : (i x : ℕ) → i < count → slice_index (coded_line c s y (first + i)) x < 2 ^ bits_of c

-- the line was made
pub record Finished (c : Configuration) (first count y : ℕ) (out : List ℕ) (s : State)
    : Type 0 where
  pub lines : List (List ℕ)
  pub finishes : Finishes c (map (coded_line c s y) (range_with_len first count)) lines
  pub stands : StandsIn c first count out (record s { out = lines })

-- what was read of a line is finished, or its event is refused
abbrev pub FinishesLine : {E : Type 0} →
    Accepted → CodedLine → List ℕ → List ℕ → Result E FrameFault → Type 0
FinishesLine a line read out result =
    (coded : ℕ → List ℕ) (s : State) →
    StandRead a.configuration line.first line.count line.y read s →
    MatchResult result (λ _. Finished a.configuration line.first line.count line.y out s)
    (λ f. FaultsWith a coded s
    (Finish line.row (range_with_len line.first line.count) line.y) f s)

-- the fault of a sample of a line of row r that has no colour
abbrev pub IsNoColour : Configuration → ℕ → ℕ → ℕ → FrameFault → Type 0
IsNoColour c r y x f =
    (k : ℕ) × Lies (across (division_of c) 0) x k
    × (f ≡ fault_in c fault.Colour r k 0 y x)
