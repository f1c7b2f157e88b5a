-- A block of places of a row that is decoded.
use Rattle.std.specs.Prelude.{ℕ, ◌≡◌, ◌+◌, ◌*◌, ◌≤◌, ◌<◌, Bool, true, false, IsTrue, List, length}
use Rattle.std.specs.Prelude.{slice_index, slice_set}
use Rattle.ffv1_range.specs.Table.{Holds}
use Rattle.ffv1_range.specs.Symbols.{AllHeld}
use Rattle.ffv1_range.specs.declared.tally.Nonzeros.{Nonzeros}
use Rattle.ffv1_range.specs.Reading.{Reading, summed}
use Rattle.ffv1_range.specs.Among.{sums_among}
use Rattle.ffv1_plane.specs.declared.prediction.Around.{Around}
use Rattle.ffv1_plane.specs.declared.early.Early.{Early}
use Rattle.ffv1_plane.specs.Quantisation.{contexts_of, HasThreeTables}
use Rattle.ffv1_line.specs.Coding.{RowCoding, coding_by}
use Rattle.ffv1_line.specs.Coder.{Decoder, decoder_by}
use Rattle.ffv1_line.specs.Above.{RowsAbove, rows_above}
use Rattle.ffv1_line.specs.declared.decode.places.Places.{Places}
use Rattle.ffv1_line.specs.declared.decode.places.Behind.{Behind}
use Rattle.ffv1_line.specs.Decoded.{Lined, LinedToRefusal, SameFrom}
use Rattle.ffv1_line.specs.Internal.Along.{AreUnsigned, IsBehind, IsFilled, ComesAgain}
use Rattle.ffv1_line.specs.Internal.Along.{IsEqualContext, HasRunContext}

-- they are places of a row that is not empty, and what the rows above decide of them is prepared
pub record ArePlaces {B : Type 0} (p : Places B) : Type 0 where
  pub bits : AreUnsigned p.bits
  pub three_tables : IsTrue p.three_tables → HasThreeTables p.set.now
  pub some : 0 < length p.one.now
  pub few : p.count ≤ 128
  pub within : p.from + p.count ≤ length p.one.now
  pub wide : length p.two.now ≡ length p.one.now
  pub filled : IsFilled p.set.now p.two.now p.one.now p.from p.early.now p.count

-- they can be decoded into this row by these states
pub record IsReady {B : Type 0} (p : Places B) (states cur : List ℕ) : Type 0 where
  pub places : ArePlaces p
  pub long : length cur ≡ length p.one.now
  pub rows : length states ≡ contexts_of p.set.now * 32
  pub held : AllHeld p.table.now states

-- how they are coded
abbrev pub coding_of : {B : Type 0} → Places B → RowCoding
coding_of p = coding_by p.table.now p.set.now p.bits

-- the rows above them
abbrev pub above_of : {B : Type 0} → Places B → RowsAbove
above_of p = rows_above p.two.now p.one.now

-- these samples are carried to place i of the block
abbrev pub Carries : {B : Type 0} → Places B → ℕ → List ℕ → Behind → Type 0
Carries p i cur b = IsBehind (above_of p) cur (p.from + i) b.ll b.l

-- the neighbours of place i, with these samples above to the right and two above
abbrev pub around_place : {B : Type 0} → Places B → ℕ → Behind → ℕ → ℕ → Around
around_place p i b tr tt = record {
  l = b.l;
  t = slice_index p.early.now.t i;
  tl = slice_index p.early.now.tl i;
  tr = tr;
  ll = b.ll;
  tt = tt;
}

-- a decoder that is ready stands at place i of the block
pub record StandsAt {B : Type 0} (p : Places B) (states cur : List ℕ) (b : Behind)
    (i : ℕ) : Type 0 where
  pub ready : IsReady p states cur
  pub inside : i < p.count
  pub begins : Carries p i cur b

-- whatever it read before, a decoder read on from place x of the row to place y
pub record ReadOn {B : Type 0} (p : Places B) (x : ℕ) (old : Decoder) (cur : List ℕ) (y : ℕ)
    (new : Decoder) (row : List ℕ) : Type 0 where
  pub on : (before : List ℕ) → SameFrom x before cur → SameFrom y before row
  pub lined : (first : Decoder) → Lined (coding_of p) first old (above_of p) cur x →
      Lined (coding_of p) first new (above_of p) row y

-- the same, and then a symbol at place y that is refused
pub record ReadToRefusal {B : Type 0} (p : Places B) (x : ℕ) (old : Decoder) (cur : List ℕ)
    (y : ℕ) (new : Decoder) (row : List ℕ) : Type 0 where
  pub inside : y < length row
  pub on : (before : List ℕ) → SameFrom x before cur → SameFrom y before row
  pub refused : (first : Decoder) → Lined (coding_of p) first old (above_of p) cur x →
      LinedToRefusal (coding_of p) first new (above_of p) row y

-- it read the places of the block
abbrev pub ReadsBlock : {B : Type 0} →
    Places B → Decoder → List ℕ → Decoder → List ℕ → Type 0
ReadsBlock p old cur new row = ReadOn p p.from old cur (p.from + p.count) new row

-- or those before place x of the row, at which a symbol is refused
abbrev pub RefusesBlock : {B : Type 0} →
    Places B → Decoder → List ℕ → ℕ → Decoder → List ℕ → Type 0
RefusesBlock p old cur x new row = ReadToRefusal p p.from old cur x new row

-- from place i of the block to place k it read zeros, which are not yet counted
pub record ReadZeros {B : Type 0} (p : Places B) (i : ℕ) (old : Decoder) (cur : List ℕ) (k : ℕ)
    (new : Decoder) (row : List ℕ) : Type 0 where
  pub least : i ≤ k
  pub read : (nonzeros : Nonzeros) → nonzeros.symbols ≤ i →
      ReadOn p (p.from + i) (decoder_by (summed old.reading (sums_among i nonzeros)) old.states)
      cur (p.from + k) (decoder_by (summed new.reading (sums_among k nonzeros)) new.states) row

-- a decoder, a state that is kept apart, and the row that zeros are read into
pub record KeptApart : Type 0 where
  pub reading : Reading
  pub state : ℕ
  pub row : List ℕ

abbrev pub kept_apart : Reading → ℕ → List ℕ → KeptApart
kept_apart reading state row = record { reading = reading; state = state; row = row }

-- the same by the first state of a context, which is kept apart
pub record ReadZerosBy {B : Type 0} (p : Places B) (size i : ℕ) (old : KeptApart) (k : ℕ)
    (new : KeptApart) : Type 0 where
  pub by : (states : List ℕ) → size * 32 < length states →
      slice_index states (size * 32) ≡ old.state →
      ReadZeros p i (decoder_by old.reading states) old.row k
      (decoder_by new.reading (slice_set states (size * 32) new.state)) new.row

-- from place i on zeros may be read by a state that is kept apart: the samples to the left, above
-- to the left and above are one, which comes again
pub record MayComeAgain {B : Type 0} (p : Places B) (state : ℕ) (cur : List ℕ) (b : Behind)
    (i : ℕ) : Type 0 where
  pub places : ArePlaces p
  pub long : length cur ≡ length p.one.now
  pub held : Holds p.table.now state
  pub inside : i < p.count
  pub begins : Carries p i cur b
  pub left : slice_index p.early.now.tl i ≡ b.l
  pub top : slice_index p.early.now.t i ≡ b.l
  pub again : ComesAgain p.bits b.l

-- zeros from place i on have this context, as long as they go on: in a run the first one, else that
-- of the early sum, also if the sample two to the left is the one too
abbrev pub SharesContext : {B : Type 0} → Bool → Places B → ℕ → Behind → ℕ → Type 0
SharesContext true p i b size = (size ≡ 0) × HasRunContext p.set.now
SharesContext false p i b size =
    IsEqualContext p.set.now (slice_index p.early.now.sum i) b.l b.ll size ×
    IsEqualContext p.set.now (slice_index p.early.now.sum i) b.l b.l size

-- they go on at place i, if the samples to the left and above to the left are l: in a run the
-- sample above to the right is l too, else the sample above is, and the early sum is this one
abbrev pub GoesOn : Bool → Early → ℕ → ℕ → ℕ → Type 0
GoesOn true e sum l i = slice_index e.t (i + 1) ≡ l
GoesOn false e sum l i = (slice_index e.t i ≡ l) × (slice_index e.sum i ≡ sum)
