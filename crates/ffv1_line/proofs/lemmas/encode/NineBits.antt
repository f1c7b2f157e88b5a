-- Residuals that lie from -256 to 255, as those of nine bits.
use Rattle.std.proofs.Common.{◌≡◌, ◌∙◌, ℕ, ◌+◌, ◌-◌, ◌*◌, ◌%◌, ◌^◌, ◌<◌, ◌≤◌, inl, inr, arith, pos, ◌-ℤ◌, pow_mono}
use Rattle.std.proofs.lemmas.Int.{ints}
use Rattle.std.proofs.lemmas.Nat.{pow-add}
use Rattle.std.proofs.lemmas.Bool.{cases_lt, lt-ltb, le-ltb}
use Rattle.ffv1_range.specs.Listed.{of_nine_bits}
use Rattle.ffv1_line.specs.Internal.Parts.{residual_limit, IsOfNineBits}

-- a number that is raised by a multiple of 512 is the same modulo 512
raised_nine : (half m n : ℕ) → half ≡ 512 * m → half ≤ n + 256 → n < half + 256 → pos n -ℤ pos half ≡ of_nine_bits (n % 512)
raised_nine half m n is least most = elim (cases_lt n half) [
  | inl below ↦
      let rest : n % 512 ≡ n + 512 - half = omega (arith, is, least, below) in
      let more : 256 ≤ n + 512 - half = omega (arith, least) in
      rw (rest, le-ltb (n + 512 - half) 256 more) (omega (arith, ints, below, least))
  | inr above ↦
      let rest : n % 512 ≡ n - half = omega (arith, is, above, most) in
      let less : n - half < 256 = omega (arith, above, most) in
      rw (rest, lt-ltb (n - half) 256 less) (omega (arith, ints, above))
]

half_is : (bits : ℕ) → 10 ≤ bits → 2 ^ (bits - 1) ≡ 512 * 2 ^ (bits - 10)
half_is bits more =
    let e : bits - 1 ≡ 9 + (bits - 10) = omega (arith, more) in
    rw e (pow-add 2 9 (bits - 10))

-- of more bits those that lie so by their distance from the least such number
pub nine_bits_near : (bits n half most : ℕ) → 10 ≤ bits → half ≡ 2 ^ (bits - 1) → 512 ≤ half → half ≤ 16384 → n < residual_limit bits → (n + (2 ^ 16 - (half - 256))) % 2 ^ 16 ≤ most → most < 512 →
    IsOfNineBits bits n
nine_bits_near bits n half most more is some few small near close =
    let small : n < 65536 = rw (le-ltb bits 10 more) at small in
    let multiple = is ∙ half_is bits more in
    let least : half ≤ n + 256 = omega (arith, small, some, few, near, close) in
    let greatest : n < half + 256 = omega (arith, small, some, few, near, close) in
    rw (le-ltb bits 10 more, ← is) (raised_nine half (2 ^ (bits - 10)) n multiple least greatest)

-- half of 2^bits as a number of 16 bits
pub half_short : (bits : ℕ) → 10 ≤ bits → bits ≤ 15 → (1 * 2 ^ (bits - 1) % 65536 ≡ 2 ^ (bits - 1)) × (512 ≤ 2 ^ (bits - 1)) × (2 ^ (bits - 1) ≤ 16384)
half_short bits more few =
    let most = pow_mono {i = bits - 1} {j = 14} (omega arith) in
    let least = pow_mono {i = 9} {j = bits - 1} (omega arith) in
    (omega (arith, most), omega (arith, least), omega (arith, most))
