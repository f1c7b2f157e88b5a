-- Predictions and differences of samples of more than 16 bits, by the rules of 32 bits.
use Rattle.std.proofs.Common.{◌≡◌, refl, ap, ◌∙◌, ℕ, ◌+◌, ◌-◌, ◌*◌, ◌/◌, ◌%◌, ◌^◌, ◌<◌, ◌≤◌, arith, inl, inr, pow_mono, Bool, true, false, ℤ, pos, ◌+ℤ◌, ◌-ℤ◌, unsigned_abs}
use Rattle.std.proofs.lemmas.Int.{ints}
use Rattle.std.proofs.lemmas.Bool.{cases_lt}
use Rattle.std.proofs.lemmas.Nat.{pow_pos}
use Rattle.std.proofs.Math.Nat.{mod-lt}
use Rattle.std.specs.Int.{int_rem_euclid, w32}
use mir.Val.{to_z, of_z, SFits}
use Rattle.ffv1_plane.specs.declared.prediction.Around.{Around}
use Rattle.ffv1_plane.specs.Quantisation.{Set, entry}
use Rattle.ffv1_plane.specs.Context.{low, context_of, is_negative, size_of, flip_of}
use Rattle.ffv1_plane.specs.Prediction.{median}
use Rattle.ffv1_plane.specs.Residual.{turned, folded}
use Rattle.ffv1_plane.proofs.Remainders.{IsCongruent, unsigned_near}
use Rattle.ffv1_plane.proofs.Words.{rem_of_word, folded_near_word, of_z_below, half_is}
use Rattle.ffv1_plane.proofs.Signed.{median_raised, sum_raised, same_median}

-- ---- contexts

low_same : (a b : ℕ) → low (a % 65536) (b % 65536) ≡ low a b
low_same a b = omega arith

sum_of : (set : Set) (a b c d e a' b' c' d' e' : ℕ) → a ≡ a' → b ≡ b' → c ≡ c' → d ≡ d' → e ≡ e' →
    entry set 0 a +ℤ entry set 1 b +ℤ entry set 2 c +ℤ entry set 3 d +ℤ entry set 4 e ≡ entry set 0 a' +ℤ entry set 1 b' +ℤ entry set 2 c' +ℤ entry set 3 d' +ℤ entry set 4 e'
sum_of set a b c d e a' b' c' d' e' p q r s t = rw (p, q, r, s, t) refl

abbrev scalars : ℕ → ℕ → ℕ → ℕ → ℕ → ℕ → Around
scalars l t tl tr ll tt = record { l = l; t = t; tl = tl; tr = tr; ll = ll; tt = tt }

context_low : (set : Set) (l t tl tr ll tt : ℕ) →
    context_of set (scalars (l % 65536) (t % 65536) (tl % 65536) (tr % 65536) (ll % 65536) (tt % 65536)) ≡ context_of set (scalars l t tl tr ll tt)
context_low set l t tl tr ll tt = sum_of set _ _ _ _ _ _ _ _ _ _ (low_same l tl) (low_same tl t) (low_same t tr) (low_same ll l) (low_same tt t)

pub size_low : (set : Set) (l t tl tr ll tt : ℕ) →
    size_of set (record { l = l % 65536; t = t % 65536; tl = tl % 65536; tr = tr % 65536; ll = ll % 65536; tt = tt % 65536 }) ≡ size_of set (record { l = l; t = t; tl = tl; tr = tr; ll = ll; tt = tt })
unfolding size_of
size_low set l t tl tr ll tt = ap unsigned_abs (context_low set l t tl tr ll tt)

pub flip_low : (set : Set) (l t tl tr ll tt : ℕ) →
    flip_of set (record { l = l % 65536; t = t % 65536; tl = tl % 65536; tr = tr % 65536; ll = ll % 65536; tt = tt % 65536 }) ≡ flip_of set (record { l = l; t = t; tl = tl; tr = tr; ll = ll; tt = tt })
unfolding flip_of
flip_low set l t tl tr ll tt = ap is_negative (context_low set l t tl tr ll tt)

-- ---- predictions

raised_back : (p n v : ℤ) (k : ℕ) → p ≡ n → v ≡ n -ℤ pos k → p ≡ v +ℤ pos k
raised_back p n v k is less = omega (arith, ints)

raised_by : (x : ℤ) (a k : ℕ) → pos a ≡ x +ℤ pos k → x ≡ pos a -ℤ pos k
raised_by x a k is = omega (arith, ints)

-- the median of numbers that are raised by k
pub median_less : (x y z : ℤ) (a b d m k : ℕ) → pos a ≡ x +ℤ pos k → pos b ≡ y +ℤ pos k → pos d ≡ z +ℤ pos k → pos m ≡ median (pos a) (pos b) (pos (a + b) -ℤ pos d) →
    pos m ≡ median x y (x +ℤ y -ℤ z) +ℤ pos k
median_less x y z a b d m k ia ib id im =
    let ix = raised_by x a k ia in
    let iy = raised_by y b k ib in
    let iz = raised_by z d k id in
    let third = sum_raised x y z a b d k ix iy iz in
    raised_back (pos m) _ _ k im (same_median _ _ _ _ _ _ ix iy third ∙ median_raised (pos a) (pos b) (pos (a + b) -ℤ pos d) k)

-- a number that was raised, less that by the rules of 32 bits
pub wrapped_less : (m : ℕ) (v : ℤ) → m < 4294967296 → pos m ≡ v +ℤ pos 65536 → (k : ℕ) × (pos ((m + 4294901760) % 4294967296) ≡ v +ℤ pos (k * 4294967296))
wrapped_less m v small is = elim (cases_lt m 65536) [
  | inl below ↦ (1, omega (arith, ints))
  | inr above ↦ (0, omega (arith, ints))
]

-- ---- differences: w is the prediction p by the rules of 32 bits

pub sum_near : (p q : ℤ) (w u k : ℕ) → pos w ≡ p +ℤ pos (k * 4294967296) → SFits w32 q → u ≡ of_z w32 q → IsCongruent 4294967296 (pos ((w + u) % 4294967296)) (p +ℤ q)
sum_near p q w u k is fits word =
    let all = w + u in
    let near = unsigned_near q fits in
    let same = near.same in
    record { down = all / 4294967296 + near.up; up = k + near.down; same = omega (arith, ints) }

pub difference_near : (p q : ℤ) (w u k : ℕ) → pos w ≡ p +ℤ pos (k * 4294967296) → SFits w32 q → u ≡ of_z w32 q → IsCongruent 4294967296 (pos ((w + (4294967296 - u)) % 4294967296)) (p -ℤ q)
difference_near p q w u k is fits word =
    let all = w + (4294967296 - u) in
    let small = of_z_below q fits in
    let near = unsigned_near q fits in
    let same = near.same in
    record { down = all / 4294967296 + near.down; up = k + 1 + near.up; same = omega (arith, ints) }

pub above_near : (p : ℤ) (w s k : ℕ) → pos w ≡ p +ℤ pos (k * 4294967296) → s < 4294967296 → IsCongruent 4294967296 (pos ((w + (4294967296 - s)) % 4294967296)) (p -ℤ pos s)
above_near p w s k is small =
    let all = w + (4294967296 - s) in
    record { down = all / 4294967296; up = k + 1; same = omega (arith, ints) }

pub below_near : (p : ℤ) (w s k : ℕ) → pos w ≡ p +ℤ pos (k * 4294967296) → w < 4294967296 → IsCongruent 4294967296 (pos ((s + (4294967296 - w)) % 4294967296)) (pos s -ℤ p)
below_near p w s k is small =
    let all = s + (4294967296 - w) in
    record { down = all / 4294967296 + k; up = 1; same = omega (arith, ints) }

-- the lowest bits of a word
pub lowest_near : (bits n : ℕ) (v : ℤ) → bits ≤ 32 → IsCongruent 4294967296 (pos n) v → pos (n % 2 ^ bits) ≡ int_rem_euclid v (pos (2 ^ bits))
lowest_near bits n v few near = rem_of_word bits (pos n) v few near

-- a folded word
pub folded_near : (bits d : ℕ) (v : ℤ) → bits ≤ 32 → IsCongruent 4294967296 (pos d) v → pos ((d + 2 ^ (bits - 1)) % 2 ^ bits) -ℤ pos (2 ^ (bits - 1)) ≡ folded bits v
folded_near bits d v few near = folded_near_word bits (pos d) v few near

-- a sum by the rules of 32 bits has the lowest bits of the sum
pub lowest_of_sum : (bits a b : ℕ) → bits ≤ 32 → ((a + b) % 4294967296) % 2 ^ bits ≡ (a + b) % 2 ^ bits
lowest_of_sum bits a b few =
    let all = a + b in
    ap unsigned_abs (rem_of_word bits (pos (all % 4294967296)) (pos all) few (record { down = all / 4294967296; up = 0; same = omega (arith, ints) }))

-- ---- what a function answers

pub turned_above : (p : ℤ) (s : ℕ) (flip : Bool) → flip ≡ true → p -ℤ pos s ≡ turned flip (pos s -ℤ p)
turned_above p s flip is = rw is (omega (arith, ints))

pub turned_below : (p : ℤ) (s : ℕ) (flip : Bool) → flip ≡ false → pos s -ℤ p ≡ turned flip (pos s -ℤ p)
turned_below p s flip is = rw is refl

pub turned_less : (p q : ℤ) (flip : Bool) → flip ≡ true → p -ℤ q ≡ p +ℤ turned flip q
turned_less p q flip is = rw is (omega (arith, ints))

pub turned_more : (p q : ℤ) (flip : Bool) → flip ≡ false → p +ℤ q ≡ p +ℤ turned flip q
turned_more p q flip is = rw is refl

less_word : (n half : ℕ) (s h : ℤ) → n < 131072 → half ≤ 65536 → s ≡ to_z w32 n → h ≡ to_z w32 half → to_z w32 (of_z w32 (to_z w32 (of_z w32 s) -ℤ to_z w32 (of_z w32 h))) ≡ pos n -ℤ pos half
less_word n half s h small few is_s is_h =
    let first : s ≡ pos n = is_s ∙ omega (arith, ints) in
    let second : h ≡ pos half = is_h ∙ omega (arith, ints) in
    rw (first, second) (omega (arith, ints))

-- the difference of two words, of which one is the lowest bits and the other one half of 2 ^ bits
pub folded_words : (bits n d : ℕ) (s h : ℤ) → bits ≤ 17 → n < 2 ^ bits → n ≡ (d + 1 * 2 ^ (bits - 1) % 4294967296) % 4294967296 % 2 ^ bits → s ≡ to_z w32 n → h ≡ to_z w32 (1 * 2 ^ (bits - 1) % 4294967296) →
    to_z w32 (of_z w32 (to_z w32 (of_z w32 s) -ℤ to_z w32 (of_z w32 h))) ≡ pos ((d + 2 ^ (bits - 1)) % 2 ^ bits) -ℤ pos (2 ^ (bits - 1))
folded_words bits n d s h few small is is_s is_h =
    let most = pow_mono {i = bits} {j = 17} few in
    let most' = pow_mono {i = bits - 1} {j = 16} (omega arith) in
    let half = half_is bits few in
    let is = rw half at is in
    let is_h = rw half at is_h in
    less_word n (2 ^ (bits - 1)) s h (omega (arith, small, most)) (omega (arith, most')) is_s is_h
    ∙ ap (λ k. pos k -ℤ pos (2 ^ (bits - 1))) (is ∙ lowest_of_sum bits d (2 ^ (bits - 1)) (omega arith))

less_size : (n half : ℕ) → n < 131072 → half ≤ 65536 → unsigned_abs (pos n -ℤ pos half) < 2147483648
less_size n half small few = omega (arith, ints)

pub folded_size : (bits d : ℕ) → bits ≤ 17 → unsigned_abs (pos (d % 2 ^ bits) -ℤ pos (2 ^ (bits - 1))) < 2147483648
folded_size bits d few =
    let most = pow_mono {i = bits} {j = 17} few in
    let most' = pow_mono {i = bits - 1} {j = 16} (omega arith) in
    let small = mod-lt d (pow_pos bits) in
    less_size (d % 2 ^ bits) (2 ^ (bits - 1)) (omega (arith, small, most)) (omega (arith, most'))
