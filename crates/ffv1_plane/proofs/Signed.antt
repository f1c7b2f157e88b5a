-- The prediction by signed numbers.
use Rattle.std.proofs.Common.{◌≡◌, refl, sym, ◌∙◌, ℕ, ◌+◌, ◌%◌, ◌<◌, arith, ℤ, pos, ◌+ℤ◌, ◌-ℤ◌}
use Rattle.std.proofs.lemmas.Int.{ints, int_min_is, int_max_is}
use Rattle.std.specs.Int.{int_min, int_max}
use Rattle.ffv1_plane.specs.Prediction.{median, signed}

-- a signed number is the number that is raised by half of 2^16, less that half
signed_is : (n : ℕ) → n < 65536 → signed n ≡ pos ((n + 32768) % 65536) -ℤ pos 32768
signed_is n small = grind (arith, ints)

-- numbers that are raised by k
min_raised : (x y : ℤ) (k : ℕ) → int_min (x -ℤ pos k) (y -ℤ pos k) ≡ int_min x y -ℤ pos k
min_raised x y k = omega (arith, ints, int_min_is)

max_raised : (x y : ℤ) (k : ℕ) → int_max (x -ℤ pos k) (y -ℤ pos k) ≡ int_max x y -ℤ pos k
max_raised x y k = omega (arith, ints, int_max_is)

pub median_raised : (x y z : ℤ) (k : ℕ) → median (x -ℤ pos k) (y -ℤ pos k) (z -ℤ pos k) ≡ median x y z -ℤ pos k
median_raised x y z k = rw (min_raised x y k, max_raised x y k, min_raised (int_max x y) z k, max_raised (int_min x y) (int_min (int_max x y) z) k) refl

pub sum_raised : (x y z : ℤ) (a b d k : ℕ) → x ≡ pos a -ℤ pos k → y ≡ pos b -ℤ pos k → z ≡ pos d -ℤ pos k → x +ℤ y -ℤ z ≡ pos (a + b) -ℤ pos d -ℤ pos k
sum_raised x y z a b d k ix iy iz = omega (arith, ints)

pub same_median : (x y z x' y' z' : ℤ) → x ≡ x' → y ≡ y' → z ≡ z' → median x y z ≡ median x' y' z'
same_median x y z x' y' z' p q r = rw (p, q, r) refl

pub predicted_raised : (l t tl a b d : ℕ) → l < 65536 → t < 65536 → tl < 65536 → a ≡ (l + 32768) % 65536 → b ≡ (t + 32768) % 65536 → d ≡ (tl + 32768) % 65536 →
    median (pos a) (pos b) (pos (a + b) -ℤ pos d) -ℤ pos 32768 ≡ median (signed l) (signed t) (signed l +ℤ signed t -ℤ signed tl)
predicted_raised l t tl a b d sl st stl ia ib id =
    let il : signed l ≡ pos a -ℤ pos 32768 = rw ia (signed_is l sl) in
    let it : signed t ≡ pos b -ℤ pos 32768 = rw ib (signed_is t st) in
    let itl : signed tl ≡ pos d -ℤ pos 32768 = rw id (signed_is tl stl) in
    let third = sum_raised (signed l) (signed t) (signed tl) a b d 32768 il it itl in
    sym (same_median _ _ _ _ _ _ il it third ∙ median_raised (pos a) (pos b) (pos (a + b) -ℤ pos d) 32768)
