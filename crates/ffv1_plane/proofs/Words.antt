-- Sums and differences by the rules of 32 bits, modulo a power of 2.
use Rattle.std.proofs.Common.{◌≡◌, refl, ap, ◌∙◌, sym, ℕ, ◌+◌, ◌-◌, ◌*◌, ◌/◌, ◌%◌, ◌^◌, ◌<◌, ◌≤◌, arith, pow_mono, ℤ, pos, negsuc, ◌+ℤ◌, ◌-ℤ◌}
use Rattle.std.proofs.lemmas.Int.{ints, int_rem_euclid_is}
use Rattle.std.proofs.lemmas.Nat.{pow_pos, and_mask}
use Rattle.std.proofs.lemmas.Nat.{pow-add}
use Rattle.std.specs.Int.{int_rem_euclid, w32}
use Rattle.std.specs.Int.Bits.{bit_and}
use Rattle.ffv1_plane.specs.Residual.{folded}
use mir.Val.{to_z, of_z, SFits}
use Rattle.ffv1_plane.proofs.Remainders.{IsCongruent, rem-congruent, congruent_factor, congruent_add, signed_near, unsigned_near}

factored : (bits : ℕ) → bits ≤ 32 → 4294967296 ≡ 2 ^ (32 - bits) * 2 ^ bits
factored bits few =
    let all : 32 - bits + bits ≡ 32 = omega arith in
    ap (λ k. 2 ^ k) (sym all) ∙ pow-add 2 (32 - bits) bits

-- numbers that are equal by the rules of 32 bits are so modulo a power of 2
pub rem_of_word : (bits : ℕ) (x y : ℤ) → bits ≤ 32 → IsCongruent 4294967296 x y → int_rem_euclid x (pos (2 ^ bits)) ≡ int_rem_euclid y (pos (2 ^ bits))
rem_of_word bits x y few is = rem-congruent (2 ^ bits) x y (pow_pos bits) (congruent_factor 4294967296 (2 ^ bits) (2 ^ (32 - bits)) x y (factored bits few) is)

pub of_z_below : (p : ℤ) → SFits w32 p → of_z w32 p < 4294967296
of_z_below (pos a) fits = omega arith
of_z_below (negsuc a) fits = omega arith

pub wrapped_sum : (p q : ℤ) → SFits w32 p → SFits w32 q → IsCongruent 4294967296 (to_z w32 ((of_z w32 p + of_z w32 q) % 4294967296)) (p +ℤ q)
wrapped_sum p q fits fits' =
    let all = of_z w32 p + of_z w32 q in
    let whole = signed_near (all % 4294967296) (omega arith) in
    let first = unsigned_near p fits in
    let second = unsigned_near q fits' in
    let one = whole.same in
    let two = first.same in
    let three = second.same in
    record { down = whole.down + all / 4294967296 + first.up + second.up; up = whole.up + first.down + second.down; same = omega (arith, ints) }

pub wrapped_difference : (p q : ℤ) → SFits w32 p → SFits w32 q → IsCongruent 4294967296 (to_z w32 ((of_z w32 p + (4294967296 - of_z w32 q)) % 4294967296)) (p -ℤ q)
wrapped_difference p q fits fits' =
    let all = of_z w32 p + (4294967296 - of_z w32 q) in
    let small = of_z_below q fits' in
    let whole = signed_near (all % 4294967296) (omega arith) in
    let first = unsigned_near p fits in
    let second = unsigned_near q fits' in
    let one = whole.same in
    let two = first.same in
    let three = second.same in
    record { down = whole.down + all / 4294967296 + first.up + second.down; up = whole.up + first.down + second.up + 1; same = omega (arith, ints) }

pub mask_is : (bits : ℕ) → bits ≤ 17 → 1 * 2 ^ bits % 4294967296 ≡ 2 ^ bits
mask_is bits few =
    let most = pow_mono {i = bits} {j = 17} few in
    omega (arith, most)

-- the lowest bits of a word
pub masked : (bits : ℕ) (p : ℤ) (u : ℕ) → bits ≤ 16 → SFits w32 p → u ≡ of_z w32 p → pos (bit_and u (1 * 2 ^ bits % 4294967296 - 1)) ≡ int_rem_euclid p (pos (2 ^ bits))
masked bits p u few fits is =
    let near = unsigned_near p fits in
    let whole : pos (of_z w32 p) +ℤ pos (0 * 2 ^ bits) ≡ pos (of_z w32 p) = omega (arith, ints) in
    rw (mask_is bits (omega arith), is) (ap pos (and_mask (of_z w32 p) bits)
    ∙ sym (int_rem_euclid_is (pos (of_z w32 p)) (pos (2 ^ bits)) (2 ^ bits) 0 (of_z w32 p) (pow_pos bits) refl whole)
    ∙ sym (rem_of_word bits p (pos (of_z w32 p)) (omega arith) near))

pub half_is : (bits : ℕ) → bits ≤ 17 → 1 * 2 ^ (bits - 1) % 4294967296 ≡ 2 ^ (bits - 1)
half_is bits few =
    let most = pow_mono {i = bits - 1} {j = 16} (omega arith) in
    omega (arith, most)

wrapped_onto : (p : ℤ) (k : ℕ) → SFits w32 p → IsCongruent 4294967296 (to_z w32 ((of_z w32 p + k) % 4294967296)) (p +ℤ pos k)
wrapped_onto p k fits =
    let all = of_z w32 p + k in
    let whole = signed_near (all % 4294967296) (omega arith) in
    let first = unsigned_near p fits in
    let one = whole.same in
    let two = first.same in
    record { down = whole.down + all / 4294967296 + first.up; up = whole.up + first.down; same = omega (arith, ints) }

less_half : (n half : ℕ) → n < 65536 → half ≤ 32768 → to_z w32 (of_z w32 (to_z w32 n -ℤ to_z w32 half)) ≡ pos n -ℤ pos half
less_half n half small few = omega (arith, ints)

-- a folded difference: n is the lowest bits of the difference and half of 2 ^ bits, by the rules of
-- 32 bits
pub folded_word : (bits n : ℕ) (d : ℤ) → 0 < bits → bits ≤ 16 → SFits w32 d → n < 2 ^ bits →
    pos n ≡ int_rem_euclid (to_z w32 ((of_z w32 d + 1 * 2 ^ (bits - 1) % 4294967296) % 4294967296)) (pos (2 ^ bits)) →
    to_z w32 (of_z w32 (to_z w32 n -ℤ to_z w32 (1 * 2 ^ (bits - 1) % 4294967296))) ≡ folded bits d
folded_word bits n d some few fits small is =
    let most = pow_mono {i = bits} {j = 16} few in
    let most' = pow_mono {i = bits - 1} {j = 15} (omega arith) in
    let half = half_is bits (omega arith) in
    let sum = rw half at is ∙ rem_of_word bits _ (d +ℤ pos (2 ^ (bits - 1))) (omega arith) (wrapped_onto d (2 ^ (bits - 1)) fits) in
    rw half (less_half n (2 ^ (bits - 1)) (omega (arith, small, most)) (omega (arith, most')) ∙ ap (λ v. v -ℤ pos (2 ^ (bits - 1))) sum)

-- equal numbers are folded alike
pub folded_near_word : (bits : ℕ) (x y : ℤ) → bits ≤ 32 → IsCongruent 4294967296 x y → folded bits x ≡ folded bits y
folded_near_word bits x y few is = ap (λ v. v -ℤ pos (2 ^ (bits - 1))) (rem_of_word bits _ _ few (congruent_add 4294967296 x y (pos (2 ^ (bits - 1))) is))

-- a sample less a number
pub wrapped_below : (p : ℤ) (s : ℕ) → SFits w32 p → s < 2 ^ 16 → IsCongruent 4294967296 (to_z w32 ((s + (4294967296 - of_z w32 p)) % 4294967296)) (pos s -ℤ p)
wrapped_below p s fits small =
    let all = s + (4294967296 - of_z w32 p) in
    let less = of_z_below p fits in
    let whole = signed_near (all % 4294967296) (omega arith) in
    let first = unsigned_near p fits in
    let one = whole.same in
    let two = first.same in
    record { down = whole.down + all / 4294967296 + first.down; up = whole.up + first.up + 1; same = omega (arith, ints) }
