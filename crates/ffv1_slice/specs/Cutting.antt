-- How a payload is a row of slices, each of its coded bytes and a footer (RFC 9043, 4.4, 4.5 and
-- 4.9), and why another payload is refused.
use Rattle.std.specs.Prelude.{◌≡◌, ◌≢◌, ◌⊎◌, ℕ, ◌+◌, ◌-◌, ◌*◌, ◌<◌, ◌≤◌, nat_lt, Bool}
use Rattle.std.specs.Prelude.{true, false, if◌then◌else◌, Option, Some, None, Result, Ok, Err}
use Rattle.std.specs.Prelude.{List, [], ◌∷◌, ◌++◌, length, take, drop, slice_index, slice_get}
use Rattle.std.proofs.Common.{zero, suc}
use Rattle.ffv1_record.specs.Parity.{remainder_of}
use Rattle.ffv1_record.specs.Configuration.{Configuration}
use Rattle.ffv1_range.specs.Codes.{AreBytes}
use Rattle.ffv1_slice.specs.Footer.{foot_length, footer_of}
pub use Rattle.ffv1_slice.specs.Footer.{size_before, slice_of}
use Rattle.ffv1_slice.specs.declared.fault.SliceFault.{SliceFault}
use Rattle.ffv1_slice.specs.declared.fault.SliceFault.TheVariants as fault
use Rattle.ffv1_slice.specs.declared.cutting.CutFault.{CutFault}

-- slice s lies from spans s to spans (s + 1), and its slice_size is the number of bytes before its
-- footer
abbrev pub IsSized : List ℕ → ℕ → (ℕ → ℕ) → ℕ → Type 0
IsSized payload foot spans s =
    spans s + size_before payload foot (spans (suc s)) + foot ≡ spans (suc s)

-- so many slices lie one after the other, and nothing else is there
pub record IsCutting (payload : List ℕ) (foot count : ℕ) (spans : ℕ → ℕ) : Type 0 where
  pub first : spans 0 ≡ 0
  pub last : spans count ≡ length payload
  pub each : (s : ℕ) → s < count → IsSized payload foot spans s

-- of so many slices those from number s on lie one after the other, up to the end of the payload
pub record AreBehind (payload : List ℕ) (foot count s : ℕ) (spans : ℕ → ℕ) : Type 0 where
  pub last : spans count ≡ length payload
  pub each : (k : ℕ) → s ≤ k → k < count → IsSized payload foot spans k

-- the bytes of slice s before its footer
abbrev pub coded_of : List ℕ → ℕ → (ℕ → ℕ) → ℕ → List ℕ
coded_of payload foot spans s = take (spans (suc s) - foot - spans s) (drop (spans s) payload)

-- slice s has the remainder 0, and the status 0
pub record IsWhole (payload : List ℕ) (spans : ℕ → ℕ) (s : ℕ) : Type 0 where
  pub parity : remainder_of (slice_of payload spans s) ≡ 0
  pub status : slice_index payload (spans (suc s) - 5) ≡ 0

abbrev pub IsSound : Bool → List ℕ → (ℕ → ℕ) → ℕ → Type 0
IsSound false payload spans s = Unit {0}
IsSound true payload spans s = IsWhole payload spans s

-- the payload is a row of slices, and each is sound
pub record Cuts (c : Configuration) (payload : List ℕ) (spans : ℕ → ℕ) : Type 0 where
  pub cutting : IsCutting payload (foot_length c.ec) (c.columns * c.rows) spans
  pub sound : (s : ℕ) → s < c.columns * c.rows → IsSound c.ec payload spans s

-- going from the end, slice s has no footer, or a slice_size above the number of bytes before it
pub record HasNoSlice (payload : List ℕ) (foot count s : ℕ) : Type 0 where
  pub inside : s < count
  pub spans : ℕ → ℕ
  pub behind : AreBehind payload foot count (suc s) spans
  pub short : spans (suc s) < foot + size_before payload foot (spans (suc s))

-- bytes are left before the first slice
pub record HasLeftover (payload : List ℕ) (foot count : ℕ) : Type 0 where
  pub spans : ℕ → ℕ
  pub behind : AreBehind payload foot count 0 spans
  pub some : 0 < spans 0

-- what is wrong with slice s: its remainder, or else its status
abbrev pub IsDamage : List ℕ → (ℕ → ℕ) → ℕ → SliceFault → Type 0
IsDamage payload spans s f =
    ((f ≡ fault.SliceParity) × (remainder_of (slice_of payload spans s) ≢ 0))
    ⊎ ((f ≡ fault.SliceStatus) × (remainder_of (slice_of payload spans s) ≡ 0)
    × (slice_index payload (spans (suc s) - 5) ≢ 0))

-- with ec, slice s is the first that is not whole
pub record IsDamaged (c : Configuration) (payload : List ℕ) (s : ℕ) (f : SliceFault) : Type 0 where
  pub guarded : c.ec ≡ true
  pub inside : s < c.columns * c.rows
  pub spans : ℕ → ℕ
  pub cutting : IsCutting payload 8 (c.columns * c.rows) spans
  pub before : (k : ℕ) → k < s → IsWhole payload spans k
  pub damage : IsDamage payload spans s f

-- why, and in which slice, a payload is refused
abbrev pub IsRefused : Configuration → List ℕ → CutFault → Type 0
IsRefused c payload f =
    ((f.fault ≡ fault.Footer)
    × HasNoSlice payload (foot_length c.ec) (c.columns * c.rows) f.slice)
    ⊎ ((f ≡ record { fault = fault.Leftover; slice = 0 })
    × HasLeftover payload (foot_length c.ec) (c.columns * c.rows))
    ⊎ IsDamaged c payload f.slice f.fault

-- what a payload is cut to: the offsets of its slices and of its end, or why it is refused
abbrev pub CutsTo : Configuration → List ℕ → Result (List ℕ) CutFault → Type 0
CutsTo c payload (Ok offsets) =
    (length offsets ≡ suc (c.columns * c.rows)) × Cuts c payload (slice_index offsets)
CutsTo c payload (Err f) = IsRefused c payload f

-- coded bytes with their footers, one after the other
abbrev pub joined_of : Bool → List (List ℕ) → List ℕ
joined_of ec [] = []
joined_of ec (bytes ∷ more) = (bytes ++ footer_of ec bytes) ++ joined_of ec more

-- where slice s of them begins
abbrev pub offset_in : Bool → List (List ℕ) → ℕ → ℕ
offset_in ec more zero = 0
offset_in ec [] (suc s) = 0
offset_in ec (bytes ∷ more) (suc s) = length bytes + foot_length ec + offset_in ec more s

-- each is the coded bytes of a slice, whose number has three bytes
abbrev pub AreCodedBytes : List (List ℕ) → Type 0
AreCodedBytes [] = Unit {0}
AreCodedBytes (bytes ∷ more) = AreBytes bytes × (length bytes ≤ 16777215) × AreCodedBytes more

-- they are the coded bytes of these slices of a payload
pub record AreCodedIn (payload : List ℕ) (foot : ℕ) (spans : ℕ → ℕ) (codes : List (List ℕ))
    : Type 0 where
  pub each : (s : ℕ) → s < length codes → slice_get codes s ≡ Some (coded_of payload foot spans s)

-- where the slices of a payload lie, for how many offsets there are places, and for how many there
-- is memory
pub record Cut : Type 0 where
  pub offsets : List ℕ
  pub foot : ℕ
  pub room : ℕ
  pub capacity : ℕ

-- what holds of it
pub record IsCut (c : Cut) : Type 0 where
  pub room : c.room ≡ 1025
  pub few : length c.offsets ≤ c.room
  pub rises : (s : ℕ) → suc s < length c.offsets →
      slice_index c.offsets s + c.foot ≤ slice_index c.offsets (suc s)

-- where the coded bytes of a slice begin and end
abbrev pub span_of : Cut → ℕ → Option (ℕ × ℕ)
span_of c n =
    if nat_lt (n + 1) (length c.offsets)
    then Some (slice_index c.offsets n, slice_index c.offsets (n + 1) - c.foot)
    else None
