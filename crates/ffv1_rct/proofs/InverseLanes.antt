-- The lanes of 16 places of the inverse transform.
use Rattle.std.proofs.Common.{◌≡◌, ℕ, ◌+◌, ◌<◌, ◌≤◌, List, length, slice_index, arith, bit_or}
use Rattle.std.proofs.lemmas.Nat.{le_or_l, le_or_r}
use Rattle.std.specs.Prelude.{replicate}
use Rattle.std.specs.Simd.Lanes.{chunk}
use lib.Lanes.{zip2}
use Rattle.ffv1_rct.proofs.Vectors.{AreLanes, loaded, splat, zipped}
use Rattle.ffv1_rct.proofs.Masks.{mask_of, none_above}
use Rattle.ffv1_rct.proofs.Rounded.{plus, minus, right, green_of, other_of}

abbrev pub green_lanes : ℕ → List ℕ → List ℕ → List ℕ → List ℕ
green_lanes at y cb cr = zip2 minus (zip2 plus (chunk at 16 y) (replicate 16 128)) (zip2 right (zip2 plus (chunk at 16 cb) (chunk at 16 cr)) (replicate 16 2))

-- red, from Cr, or blue, from Cb
abbrev pub other_lanes : ℕ → List ℕ → List ℕ → List ℕ → List ℕ → List ℕ
other_lanes at c y cb cr = zip2 plus (chunk at 16 c) (zip2 minus (green_lanes at y cb cr) (replicate 16 256))

abbrev pub all_lanes : ℕ → List ℕ → List ℕ → List ℕ → List ℕ
all_lanes at y cb cr = zip2 bit_or (zip2 bit_or (other_lanes at cr y cb cr) (green_lanes at y cb cr)) (other_lanes at cb y cb cr)

abbrev pub green_at : List ℕ → List ℕ → List ℕ → ℕ → ℕ
green_at y cb cr k = green_of (slice_index y k) (slice_index cb k) (slice_index cr k)

abbrev pub other_at : List ℕ → List ℕ → List ℕ → List ℕ → ℕ → ℕ
other_at c y cb cr k = other_of (slice_index c k) (slice_index y k) (slice_index cb k) (slice_index cr k)

pub green_are : (at : ℕ) (y cb cr : List ℕ) → at + 16 ≤ length y → at + 16 ≤ length cb → at + 16 ≤ length cr → AreLanes at 16 (green_lanes at y cb cr) (green_at y cb cr)
green_are at y cb cr ly lb lr =
    zipped at 16 minus _ _ _ _
    (zipped at 16 plus _ _ _ _ (loaded at 16 y ly) (splat at 16 128))
    (zipped at 16 right _ _ _ _ (zipped at 16 plus _ _ _ _ (loaded at 16 cb lb) (loaded at 16 cr lr)) (splat at 16 2))

pub other_are : (at : ℕ) (c y cb cr : List ℕ) → at + 16 ≤ length c → at + 16 ≤ length y → at + 16 ≤ length cb → at + 16 ≤ length cr → AreLanes at 16 (other_lanes at c y cb cr) (other_at c y cb cr)
other_are at c y cb cr lc ly lb lr =
    zipped at 16 plus _ _ _ _ (loaded at 16 c lc) (zipped at 16 minus _ _ _ _ (green_are at y cb cr ly lb lr) (splat at 16 256))

-- red, green and blue of a sample lie from 0 to 255
pub record AreBytesAt (y cb cr : List ℕ) (k : ℕ) : Type 0 where
  pub red : other_at cr y cb cr k < 256
  pub green : green_at y cb cr k < 256
  pub blue : other_at cb y cb cr k < 256

under_or : (r g b : ℕ) → bit_or (bit_or r g) b ≤ 255 → (r < 256) × (g < 256) × (b < 256)
under_or r g b h =
    let first = le_or_l (bit_or r g) b in
    let second = le_or_r (bit_or r g) b in
    let third = le_or_l r g in
    let fourth = le_or_r r g in
    (omega (arith, h, first, third), omega (arith, h, first, fourth), omega (arith, h, second))

pub bytes_at : (at : ℕ) (y cb cr : List ℕ) → at + 16 ≤ length y → at + 16 ≤ length cb → at + 16 ≤ length cr → mask_of 16 (all_lanes at y cb cr) ≡ 0
    → (k : ℕ) → at ≤ k → k < at + 16 → AreBytesAt y cb cr k
bytes_at at y cb cr ly lb lr none k le lt =
    let green = green_are at y cb cr ly lb lr in
    let red = other_are at cr y cb cr lr ly lb lr in
    let blue = other_are at cb y cb cr lb ly lb lr in
    let all = zipped at 16 bit_or _ _ _ _ (zipped at 16 bit_or _ _ _ _ red green) blue in
    let small = none_above at 16 (all_lanes at y cb cr) (λ x. bit_or (bit_or (other_at cr y cb cr x) (green_at y cb cr x)) (other_at cb y cb cr x)) all (omega arith) none k le lt in
    let each = under_or (other_at cr y cb cr k) (green_at y cb cr k) (other_at cb y cb cr k) small in
    record { red = each.0; green = each.1; blue = each.2 }
