-- Numbers of bytes, big end first.
use Rattle.std.proofs.Common.{◌≡◌, ℕ, zero, suc, inl, inr, drop, ◌+◌, ◌-◌, ◌*◌, ◌^◌, ◌<◌, ◌≤◌, length, refl, arith}
use Rattle.std.proofs.Math.Nat.{pow-le-pow_right}
use Rattle.std.proofs.lemmas.Bool.{cases_lt}
use Rattle.std.specs.Int.{bytes_high_first}

-- one byte more than at most seven fits in 64 bits
pub seven_fit : (n i : ℕ) → n < 256 ^ i → i < 8 → 256 * n + 255 < 2 ^ 64
seven_fit n i h few =
    let most : 256 ^ i ≤ 256 ^ 7 = pow-le-pow_right {n = 256} (omega arith) {i = i} {j = 7} (omega arith) in
    omega (arith, most)

-- an ID of at most four bytes fits in 32 bits
pub four_fit : (n i : ℕ) → n < 256 ^ i → i ≤ 4 → n < 2 ^ 32
four_fit n i h few =
    let most : 256 ^ i ≤ 256 ^ 4 = pow-le-pow_right {n = 256} (omega arith) {i = i} {j = 4} (omega arith) in
    omega (arith, most)

-- the lowest bytes of a number
pub low_bytes : (k n x : ℕ) → n ≤ k → drop (k - n) (bytes_high_first k x) ≡ bytes_high_first n x
low_bytes zero n x h = let e : n ≡ 0 = omega (arith, h) in rw e refl
low_bytes (suc k) n x h = elim (cases_lt k n) [
  | inl more ↦ let e : n ≡ suc k = omega (arith, h, more) in let none : suc k - suc k ≡ 0 = omega arith in rw (e, none) refl
  | inr fewer ↦ let one : suc k - n ≡ suc (k - n) = omega (arith, fewer) in rw one (low_bytes k n x fewer)
]

pub length_high : (n x : ℕ) → length (bytes_high_first n x) ≡ n
length_high zero x = refl
length_high (suc n) x = let e = length_high n x in omega (arith, e)
