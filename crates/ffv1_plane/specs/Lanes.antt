-- Sixteen places at once.
use Rattle.std.specs.Prelude.{ℕ, ◌≡◌, ◌+◌, ◌*◌, ◌/◌, ◌%◌, ◌==◌, ◌<◌, ◌^◌, if◌then◌else◌, ℤ, pos}
use Rattle.std.specs.Prelude.{unsigned_abs, ◌-◌, ◌+ℤ◌, Bool}
use Rattle.std.specs.Prelude.{List, map}
use Rattle.std.specs.Int.{int_rem_euclid}
use Rattle.ffv1_plane.specs.declared.prediction.Around.{Around}
use Rattle.ffv1_plane.specs.declared.lanes.AroundLanes.{AroundLanes}

-- samples of 16 bits
pub record AreSamples (a : Around) : Type 0 where
  pub l : a.l < 2 ^ 16
  pub t : a.t < 2 ^ 16
  pub tl : a.tl < 2 ^ 16
  pub tr : a.tr < 2 ^ 16
  pub ll : a.ll < 2 ^ 16
  pub tt : a.tt < 2 ^ 16

-- the lanes are the samples around some places, in their order
pub record AreAround (lanes : AroundLanes) (places : List ℕ) (a : ℕ → Around) : Type 0 where
  pub samples : (x : ℕ) → AreSamples (a x)
  pub l : lanes.l ≡ map (λ x. (a x).l) places
  pub t : lanes.t ≡ map (λ x. (a x).t) places
  pub tl : lanes.tl ≡ map (λ x. (a x).tl) places
  pub tr : lanes.tr ≡ map (λ x. (a x).tr) places
  pub ll : lanes.ll ≡ map (λ x. (a x).ll) places
  pub tt : lanes.tt ≡ map (λ x. (a x).tt) places

-- a residual modulo 512
abbrev pub modulo_512 : ℤ → ℕ
modulo_512 residual = unsigned_abs (int_rem_euclid residual (pos 512))

-- a residual of so many bits, raised above 0
abbrev pub raised_residual : ℕ → ℤ → ℕ
raised_residual bits residual = unsigned_abs (residual +ℤ pos (2 ^ (bits - 1)))

-- the difference of a sample to its prediction modulo 65536, its sign flipped or not
unfoldable pub difference_modulo : Bool → ℕ → ℕ → ℕ
difference_modulo flip prediction sample = if flip
    then (prediction + (65536 - sample)) % 65536 else (sample + (65536 - prediction)) % 65536

-- a difference modulo 65536, folded to so many bits and raised above 0
unfoldable pub raised_modulo : ℕ → ℕ → ℕ
raised_modulo bits n = (n + 2 ^ (bits - 1)) % 2 ^ bits

-- a difference modulo 65536, folded to 8 or 9 bits, modulo 512
unfoldable pub folded_modulo : ℕ → ℕ → ℕ
folded_modulo bits n = if bits == 8 then n % 256 + n % 256 / 128 * 256 else n % 512
