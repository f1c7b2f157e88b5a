-- Numbers and their bits.
use Rattle.std.proofs.Common.{◌≡◌, refl, sym, ◌∙◌, ap, ℕ, zero, suc, ◌+◌, ◌-◌, ◌*◌, ◌/◌, ◌%◌, ◌^◌}
use Rattle.std.proofs.Common.{◌<◌, ◌≤◌, Bool, true, false, List, [], ◌∷◌, ◌++◌, ◌==◌, length, take}
use Rattle.std.proofs.Common.{replicate, inl, inr, arith}
use Rattle.std.proofs.Math.Nat.{pow-succ'}
use Rattle.std.proofs.lemmas.Nat.{pow_pos, pow-add, shr-shr, shr_split, shr_high, mod_below}
use Rattle.std.proofs.lemmas.Nat.{le-div, div_below, mod-pow-add}
use Rattle.std.proofs.lemmas.Bool.{cases_eq}
use Rattle.std.proofs.lemmas.List.{take-take, take-append-le, take-replicate}
use Rattle.ffv1_rice.specs.Bits.{binary, digit, number_of}

pub digit_test : (n : ℕ) → digit (n % 2 == 1) ≡ n % 2
digit_test n = elim (cases_eq (n % 2) 1) [
  | inl one ↦ rw one refl
  | inr other ↦ let none : n % 2 ≡ 0 = omega arith in rw none refl
]

pub digit_bit : (bit : Bool) → (digit bit == 1) ≡ bit
digit_bit false = refl
digit_bit true = refl

pub length-binary : (n x : ℕ) → length (binary n x) ≡ n
unfolding binary
length-binary zero x = refl
length-binary (suc n) x = ap suc (length-binary n x)

-- what stands above the low bits does not count
pub binary_low : (n a m : ℕ) → m < 2 ^ n → binary n (a * 2 ^ n + m) ≡ binary n m
unfolding binary
binary_low zero a m small = refl
binary_low (suc n) a m small =
    let twice = pow-succ' 2 n in
    let whole : a * 2 ^ suc n + m ≡ (a * 2 + m / 2 ^ n) * 2 ^ n + m % 2 ^ n =
    let split = shr_split m n in
    let product : a * 2 ^ suc n ≡ a * (2 * 2 ^ n) = ap (λ k. a * k) twice in
    omega (arith, product, split) in
    let rest = binary_low n (a * 2 + m / 2 ^ n) (m % 2 ^ n) (mod_below m (2 ^ n) (pow_pos n)) in
    let own = binary_low n (m / 2 ^ n) (m % 2 ^ n) (mod_below m (2 ^ n) (pow_pos n)) in
    let high = shr_high (a * 2 + m / 2 ^ n) n (m % 2 ^ n) (mod_below m (2 ^ n) (pow_pos n)) in
    let bit : (a * 2 + m / 2 ^ n) % 2 ≡ m / 2 ^ n % 2 = omega arith in
    let low : binary n m ≡ binary n (m % 2 ^ n) = ap (binary n) (sym (shr_split m n)) ∙ own in
    rw (whole, high, bit) (ap (λ bits. (m / 2 ^ n % 2 == 1) ∷ bits) (rest ∙ sym low))

pub binary-mod : (n x : ℕ) → binary n x ≡ binary n (x % 2 ^ n)
binary-mod n x = ap (binary n) (sym (shr_split x n)) ∙ binary_low n (x / 2 ^ n) (x % 2 ^ n)
    (mod_below x (2 ^ n) (pow_pos n))

-- the high bits and the low ones
pub binary-add : (n a b x : ℕ) → n ≡ a + b → binary n x ≡ binary a (x / 2 ^ b) ++ binary b x
unfolding binary
binary-add n zero b x is = let same : n ≡ b = omega arith in rw same refl
binary-add zero (suc a) b x is = absurd (omega arith)
binary-add (suc n) (suc a) b x is =
    let less : n ≡ a + b = omega arith in
    let turned : n ≡ b + a = omega arith in
    let high : x / 2 ^ n ≡ x / 2 ^ b / 2 ^ a = ap (λ k. x / 2 ^ k) turned ∙ sym (shr-shr x b a) in
    rw high (ap (λ bits. (x / 2 ^ b / 2 ^ a % 2 == 1) ∷ bits) (binary-add n a b x less))

pub binary-zero : (n : ℕ) → binary n 0 ≡ replicate n false
unfolding binary
binary-zero zero = refl
binary-zero (suc n) =
    let some = pow_pos n in
    let none : 0 / 2 ^ n ≡ 0 = let less = div_below 0 (2 ^ n) 1 some (omega (arith, some)) in
    omega (arith, less) in
    rw none (ap (λ bits. false ∷ bits) (binary-zero n))

-- a number that needs fewer bits begins with zeros
pub binary_padded : (n a b x : ℕ) → n ≡ a + b → x < 2 ^ b → binary n x ≡ replicate a false ++ binary
    b x
binary_padded n a b x is small =
    let some = pow_pos b in
    let none : x / 2 ^ b ≡ 0 = let less = div_below x (2 ^ b) 1 some (omega (arith, small)) in
    omega (arith, less) in
    binary-add n a b x is ∙ ap (λ k. binary a k ++ binary b x) none ∙
    ap (λ bits. bits ++ binary b x) (binary-zero a)

-- one that needs all of them begins with a 1
pub binary_full : (b x : ℕ) → 2 ^ b ≤ x → x < 2 ^ suc b → binary (suc b) x ≡ true ∷ binary b x
unfolding binary
binary_full b x least most =
    let some = pow_pos b in
    let twice = pow-succ' 2 b in
    let up = le-div 1 x (2 ^ b) some (omega (arith, least)) in
    let down = div_below x (2 ^ b) 2 some (omega (arith, most, twice)) in
    let one : x / 2 ^ b ≡ 1 = omega (arith, up, down) in
    rw one refl

-- the number of bits is one of so many
pub number-below : (n : ℕ) (bits : List Bool) → number_of n bits < 2 ^ n
unfolding number_of
number-below zero bits = omega arith
number-below (suc n) [] = pow_pos (suc n)
number-below (suc n) (false ∷ bits) = let less = number-below n bits in let twice = pow-succ' 2 n in
    omega (arith, less, twice)
number-below (suc n) (true ∷ bits) = let less = number-below n bits in let twice = pow-succ' 2 n in
    omega (arith, less, twice)

-- a bit above some low ones
mod_next : (n x : ℕ) → x / 2 ^ n % 2 * 2 ^ n + x % 2 ^ n ≡ x % 2 ^ suc n
mod_next n x =
    let next : 1 + n ≡ suc n = omega arith in
    let parts = mod-pow-add x 1 n in
    sym (rw next at parts)

pub number-binary : (n x : ℕ) (rest : List Bool) → number_of n (binary n x ++ rest) ≡ x % 2 ^ n
unfolding number_of binary
number-binary zero x rest = omega arith
number-binary (suc n) x rest = rw (digit_test (x / 2 ^ n), number-binary n x rest) (mod_next n x)

-- after the last bit zeros are read
pub binary-number : (n p : ℕ) (bits : List Bool) → n ≤ p →
    binary n (number_of n bits) ≡ take n (bits ++ replicate p false)
unfolding binary number_of
binary-number zero p bits few = refl
binary-number (suc n) p [] few =
    binary-zero (suc n) ∙ sym (take-replicate (suc n) p false few)
binary-number (suc n) p (false ∷ bits) few =
    let less = number-below n bits in
    let high = shr_high 0 n (number_of n bits) less in
    rw high (ap (λ rest. false ∷ rest) (binary_low n 0 (number_of n bits) less ∙ binary-number n p
    bits (omega (arith, few))))
binary-number (suc n) p (true ∷ bits) few =
    let less = number-below n bits in
    let high = shr_high 1 n (number_of n bits) less in
    rw high (ap (λ rest. true ∷ rest) (binary_low n 1 (number_of n bits) less ∙ binary-number n p
    bits (omega (arith, few))))

take_beyond : (n : ℕ) (xs ys : List Bool) → length xs ≤ n → take n (xs ++ ys) ≡ xs ++ take
    (n - length xs) ys
take_beyond n [] ys few = let same : n ≡ n - 0 = omega arith in ap (λ k. take k ys) same
take_beyond zero (x ∷ xs) ys few = absurd (omega (arith, few))
take_beyond (suc n) (x ∷ xs) ys few =
    let less : n - length xs ≡ suc n - suc (length xs) = omega arith in
    ap (λ rest. x ∷ rest) (take_beyond n xs ys (omega (arith, few)) ∙ ap (λ k. xs ++ take k ys)
    less)

-- the first bits of a window on some bits are theirs
pub window_within : (n long : ℕ) (bits : List Bool) → long ≤ n → long ≤ length bits →
    take long (binary n (number_of n bits)) ≡ take long bits
window_within n long bits few within =
    ap (take long) (binary-number n n bits (omega arith))
    ∙ take-take long n (bits ++ replicate n false) few
    ∙ take-append-le long bits (replicate n false) within

-- or theirs and zeros
pub window_beyond : (n long : ℕ) (bits : List Bool) → long ≤ n → length bits ≤ long →
    take long (binary n (number_of n bits)) ≡ bits ++ replicate (long - length bits) false
window_beyond n long bits few beyond =
    ap (take long) (binary-number n n bits (omega arith))
    ∙ take-take long n (bits ++ replicate n false) few
    ∙ take_beyond long bits (replicate n false) beyond
    ∙ ap (λ zeros. bits ++ zeros) (take-replicate (long - length bits) n false (omega (arith, few)))

-- the number of bits one after the other
pub number-append : (n a b : ℕ) (xs ys : List Bool) → n ≡ a + b → length xs ≡ a →
    number_of n (xs ++ ys) ≡ number_of a xs * 2 ^ b + number_of b ys
unfolding number_of
number-append n zero b [] ys is long = let same : n ≡ b = omega arith in rw same (omega arith)
number-append n zero b (x ∷ xs) ys is long = absurd (omega (arith, long))
number-append n (suc a) b [] ys is long = absurd (omega (arith, long))
number-append zero (suc a) b (x ∷ xs) ys is long = absurd (omega (arith, is))
number-append (suc n) (suc a) b (x ∷ xs) ys is long =
    let less : n ≡ a + b = omega arith in
    let rest = number-append n a b xs ys less (omega (arith, long)) in
    let power : 2 ^ n ≡ 2 ^ a * 2 ^ b = ap (λ k. 2 ^ k) less ∙ pow-add 2 a b in
    rw (rest, power) (omega arith)
