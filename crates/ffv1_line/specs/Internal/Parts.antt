-- Places of a row that are encoded at once.
use Rattle.std.specs.Prelude.{ℕ, ◌≡◌, ◌+◌, ◌-◌, ◌*◌, ◌^◌, ◌≤◌, ◌<◌, IsTrue, List, length, nat_lt}
use Rattle.std.specs.Prelude.{if◌then◌else◌, ℤ, pos, ◌-ℤ◌, slice_index_or, unsigned_abs}
use Rattle.std.specs.Prelude.{slice_index, ◌%◌}
use Rattle.ffv1_range.specs.Symbols.{Step, shifted, signed_steps}
use Rattle.ffv1_range.specs.Counts.{Counts, Counted}
use Rattle.ffv1_range.specs.Listed.{of_nine_bits}
use Rattle.ffv1_plane.specs.Quantisation.{Set, HasThreeTables, contexts_of}
use Rattle.ffv1_plane.specs.Context.{size_of}
use Rattle.ffv1_plane.specs.Lanes.{modulo_512, raised_residual}
use Rattle.ffv1_line.specs.declared.encode.part.Part.{Part}
use Rattle.ffv1_line.specs.declared.encode.block.Block.{Block}
use Rattle.ffv1_line.specs.Internal.Along.{AreUnsigned}
use Rattle.ffv1_line.specs.Beside.{beside, chosen_beside, places_steps}

-- they are places of a row that is not empty
pub record IsPart {A : Type 0} (p : Part A) : Type 0 where
  pub bits : AreUnsigned p.bits
  pub three_tables : IsTrue p.three_tables → HasThreeTables p.set.now
  pub some : 0 < length p.cur.now
  pub few : p.count ≤ 64
  pub within : p.from + p.count ≤ length p.cur.now
  pub two_long : length p.two.now ≡ length p.cur.now
  pub one_long : length p.one.now ≡ length p.cur.now

-- a residual of so many bits by the number that a block has of it: of 8 and 9 bits it is modulo
-- 512, of more it is raised above 0
abbrev pub residual_by : ℕ → ℕ → ℤ
residual_by bits n = if nat_lt bits 10 then of_nine_bits n else pos n -ℤ pos (2 ^ (bits - 1))

-- the number that a block has of a residual
abbrev pub kept_of : ℕ → ℤ → ℕ
kept_of bits residual =
    if nat_lt bits 10 then modulo_512 residual else raised_residual bits residual

-- such a number is below this one
abbrev pub residual_limit : ℕ → ℕ
residual_limit bits = if nat_lt bits 10 then 512 else 2 ^ 16

-- it lies from -256 to 255: its number modulo 512 is that of a residual of nine bits
abbrev pub IsOfNineBits : ℕ → ℕ → Type 0
IsOfNineBits bits n = residual_by bits n ≡ of_nine_bits (n % 512)

-- the contexts of the first n of them, and their residuals
pub record ArePrepared {A : Type 0} (p : Part A) (n : ℕ) (contexts residuals : List ℕ)
    : Type 0 where
  pub context : (k : ℕ) → k < n →
      slice_index contexts k ≡ size_of p.set.now (beside p.two.now p.one.now p.cur.now (p.from + k))
  pub few : (k : ℕ) → k < n → slice_index contexts k < contexts_of p.set.now
  pub residual : (k : ℕ) → k < n → residual_by p.bits (slice_index residuals k) ≡
      chosen_beside p.set.now p.bits p.two.now p.one.now p.cur.now (p.from + k)
  pub small : (k : ℕ) → k < n → slice_index residuals k < residual_limit p.bits

-- a block has them
abbrev pub IsBlockOf : {A : Type 0} → Part A → ℕ → Block → Type 0
IsBlockOf p n b = ArePrepared p n b.contexts b.residuals

-- the first n residuals of a block lie from -256 to 255
pub record AreOfNineBits (bits n : ℕ) (residuals : List ℕ) : Type 0 where
  pub each : (k : ℕ) → k < n → IsOfNineBits bits (slice_index residuals k)

-- the first n of these contexts are those of a row's places from one on
pub record HaveContexts (set : Set) (two one cur : List ℕ) (from : ℕ) (contexts : List ℕ) (n : ℕ)
    : Type 0 where
  pub context : (k : ℕ) → k < n →
      slice_index contexts k ≡ size_of set (beside two one cur (from + k))
  pub few : (k : ℕ) → k < n → slice_index contexts k < contexts_of set

-- and the first n of these numbers are the residuals of these places, given by place
pub record HaveResiduals (residual : ℕ → ℤ) (numbers : List ℤ) (n : ℕ) : Type 0 where
  pub number : (k : ℕ) → k < n → slice_index_or numbers k (pos 0) ≡ residual k
  pub size : (k : ℕ) → k < n → unsigned_abs (slice_index_or numbers k (pos 0)) < 2 ^ 31

-- the first n of these numbers are their residuals
abbrev pub AreNumbered : {A : Type 0} → Part A → List ℤ → ℕ → Type 0
AreNumbered p numbers n =
    HaveResiduals (λ k. chosen_beside p.set.now p.bits p.two.now p.one.now p.cur.now (p.from + k))
    numbers n

-- the decisions of the first n of them
abbrev pub part_steps : {A : Type 0} → Part A → ℕ → List Step
part_steps p n = places_steps p.set.now p.bits p.two.now p.one.now p.cur.now p.from n

-- the decisions of a residual of nine bits, given modulo 512, in the states of a context
abbrev pub nine_bit_steps : ℕ → ℕ → List Step
nine_bit_steps context residual = shifted (context * 32) (signed_steps (of_nine_bits residual))

-- the counters went on by the decisions of its first places, and not of all if it has some
pub record CountsPart {A : Type 0} (p : Part A) (old new : Counts) : Type 0 where
  pub first : ℕ
  pub few : 0 < p.count → first < p.count
  pub counted : Counted old (part_steps p first) new
