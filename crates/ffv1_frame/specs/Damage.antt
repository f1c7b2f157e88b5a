-- A payload that was damaged on its way, within 32 neighbouring bits: of one slice, or anywhere.
use Rattle.std.specs.Prelude.{◌≡◌, ◌⊎◌, ℕ, ◌*◌, ◌^◌, ◌<◌, ◌≤◌, true, List, length, slice_index}
use Rattle.std.specs.Prelude.{bit_xor}
use Rattle.std.proofs.Common.{suc}
use Rattle.ffv1_range.specs.Codes.{value, AreBytes}
use Rattle.ffv1_record.specs.Configuration.{Configuration}
use Rattle.ffv1_record.specs.Accepted.{Accepted}
use Rattle.ffv1_slice.specs.Footer.{foot_length}
use Rattle.ffv1_slice.specs.Cutting.{Cuts, size_before, slice_of}

-- a list of bytes as a number, big end first
abbrev pub number_of : List ℕ → ℕ
number_of bytes = value bytes (length bytes)

-- with parity, the payload differs from one that was sent within 32 neighbouring bits of slice s,
-- and not in its slice_size
pub record IsBurst (c : Configuration) (sent payload : List ℕ) (spans : ℕ → ℕ) (s : ℕ)
    : Type 0 where
  pub guarded : c.ec ≡ true
  pub inside : s < c.columns * c.rows
  pub long : length payload ≡ length sent
  pub others : (k : ℕ) → (k < spans s) ⊎ (spans (suc s) ≤ k) →
      slice_index payload k ≡ slice_index sent k
  pub size : size_before payload (foot_length true) (spans (suc s))
      ≡ size_before sent (foot_length true) (spans (suc s))
  pub bits : ℕ
  pub place : ℕ
  pub some : 0 < bits
  pub few : bits < 2 ^ 32
  pub differs : bit_xor (number_of (slice_of sent spans s)) (number_of (slice_of payload spans s))
      ≡ bits * 2 ^ place

-- the payload is a good one, but for damage of that kind
pub record IsDamaged (a : Accepted) (sent payload : List ℕ) (spans : ℕ → ℕ) (s : ℕ)
    : Type 0 where
  pub bytes : AreBytes sent
  pub good : Cuts a.configuration sent spans
  pub burst : IsBurst a.configuration sent payload spans s

-- with parity, the payload is a good one, but for damage within 32 neighbouring bits, wherever
-- these lie
pub record HasBurst (a : Accepted) (sent payload : List ℕ) : Type 0 where
  pub guarded : a.configuration.ec ≡ true
  pub bytes : AreBytes sent
  pub spans : ℕ → ℕ
  pub good : Cuts a.configuration sent spans
  pub long : length payload ≡ length sent
  pub bits : ℕ
  pub place : ℕ
  pub some : 0 < bits
  pub few : bits < 2 ^ 32
  pub differs : bit_xor (number_of sent) (number_of payload) ≡ bits * 2 ^ place
