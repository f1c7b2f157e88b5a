-- Coefficients that are struck out one after the other: additive, and place by place.
use Rattle.std.specs.Prelude.{bit_xor}
use Rattle.std.proofs.Common.{◌≡◌, refl, ℕ, zero, suc, ◌+◌, ◌*◌, ◌/◌, ◌%◌, ◌^◌, ◌<◌, arith, ap, sym, ◌∙◌, inl, inr}
use Rattle.std.specs.Int.Bits.{xor_assoc, xor_self, xor_zero_l, xor_zero_r}
use Rattle.std.proofs.lemmas.Bool.{cases_eq}
use Rattle.std.proofs.Math.Nat.{pow-suc}
use Rattle.std.proofs.lemmas.Nat.{xor_block, xor_lt, xor_comm}
use Rattle.ffv1_sum.specs.Sum.{generator, bit_step, bit_steps}

pub none : (n : ℕ) → bit_steps 0 n ≡ n
unfolding bit_steps
none n = refl

pub more : (count n : ℕ) → bit_steps (suc count) n ≡ bit_steps count (bit_step n)
unfolding bit_steps
more count n = refl

pub odd : (n : ℕ) → n % 2 ≡ 1 → bit_step n ≡ bit_xor (n / 2) generator
odd n one = rw one refl

pub even : (n : ℕ) → n % 2 ≡ 0 → bit_step n ≡ n / 2
even n none = rw none refl

-- ---- additive

halves : (a b : ℕ) → bit_xor a b ≡ bit_xor (a / 2) (b / 2) * 2 + bit_xor (a % 2) (b % 2)
halves a b =
    let of_a : a / 2 * 2 ^ 1 + a % 2 ≡ a = omega arith in
    let of_b : b / 2 * 2 ^ 1 + b % 2 ≡ b = omega arith in
    let parts = xor_block 1 (a / 2) (b / 2) (a % 2) (b % 2) (omega arith) (omega arith) in
    sym (ap (λ x. bit_xor x (b / 2 * 2 ^ 1 + b % 2)) of_a ∙ ap (bit_xor a) of_b) ∙ parts ∙ omega arith

last_digit : (x y a b : ℕ) → a ≡ x * 2 + y → y < 2 → (a / 2 ≡ x) × (a % 2 ≡ y)
last_digit x y a b is small = (omega (arith, is, small), omega (arith, is, small))

-- of two sums with the same number, the number falls out
xor_both : (a b g : ℕ) → bit_xor (bit_xor a g) (bit_xor b g) ≡ bit_xor a b
xor_both a b g =
    xor_assoc a g (bit_xor b g) ∙ ap (bit_xor a) (ap (bit_xor g) (xor_comm b g) ∙ sym (xor_assoc g g b) ∙ ap (λ x. bit_xor x b) (xor_self g) ∙ xor_zero_l b)

xor_left : (a b g : ℕ) → bit_xor (bit_xor a g) b ≡ bit_xor (bit_xor a b) g
xor_left a b g = xor_assoc a g b ∙ ap (bit_xor a) (xor_comm g b) ∙ sym (xor_assoc a b g)

digits : (a b d : ℕ) → bit_xor (a % 2) (b % 2) ≡ d → d < 2 → (bit_xor a b / 2 ≡ bit_xor (a / 2) (b / 2)) × (bit_xor a b % 2 ≡ d)
digits a b d is small = last_digit (bit_xor (a / 2) (b / 2)) d (bit_xor a b) 0 (halves a b ∙ ap (λ x. bit_xor (a / 2) (b / 2) * 2 + x) is) small

pub step_xor : (a b : ℕ) → bit_step (bit_xor a b) ≡ bit_xor (bit_step a) (bit_step b)
step_xor a b =
    elim (cases_eq (a % 2) 1) [
      | inl one_a ↦ elim (cases_eq (b % 2) 1) [
        | inl one_b ↦
            let both = digits a b 0 (rw (one_a, one_b) refl) (omega arith) in
            even (bit_xor a b) both.1 ∙ both.0 ∙ rw (odd a one_a, odd b one_b) (sym (xor_both (a / 2) (b / 2) generator))
        | inr not_b ↦
            let zero_b : b % 2 ≡ 0 = omega arith in
            let both = digits a b 1 (rw (one_a, zero_b) refl) (omega arith) in
            odd (bit_xor a b) both.1 ∙ ap (λ x. bit_xor x generator) both.0 ∙ rw (odd a one_a, even b zero_b) (sym (xor_left (a / 2) (b / 2) generator))
      ]
      | inr not_a ↦
          let zero_a : a % 2 ≡ 0 = omega arith in
          elim (cases_eq (b % 2) 1) [
            | inl one_b ↦
                let both = digits a b 1 (rw (zero_a, one_b) refl) (omega arith) in
                odd (bit_xor a b) both.1 ∙ ap (λ x. bit_xor x generator) both.0 ∙ rw (even a zero_a, odd b one_b) (xor_assoc (a / 2) (b / 2) generator)
            | inr not_b ↦
                let zero_b : b % 2 ≡ 0 = omega arith in
                let both = digits a b 0 (rw (zero_a, zero_b) refl) (omega arith) in
                even (bit_xor a b) both.1 ∙ both.0 ∙ rw (even a zero_a, even b zero_b) refl
          ]
    ]

pub steps_xor : (count a b : ℕ) → bit_steps count (bit_xor a b) ≡ bit_xor (bit_steps count a) (bit_steps count b)
unfolding bit_steps
steps_xor zero a b = refl
steps_xor (suc count) a b = ap (bit_steps count) (step_xor a b) ∙ steps_xor count (bit_step a) (bit_step b)

-- ---- place by place

pub steps_add : (m n a : ℕ) → bit_steps (m + n) a ≡ bit_steps n (bit_steps m a)
unfolding bit_steps
steps_add zero n a = let same : 0 + n ≡ n = omega arith in ap (λ k. bit_steps k a) same
steps_add (suc m) n a =
    let next : suc m + n ≡ suc (m + n) = omega arith in
    ap (λ k. bit_steps k a) next ∙ steps_add m n (bit_step a)

doubled : (n : ℕ) → bit_step (n * 2) ≡ n
doubled n = even (n * 2) (omega arith) ∙ omega arith

pub steps_shifted : (count n : ℕ) → bit_steps count (n * 2 ^ count) ≡ n
unfolding bit_steps
steps_shifted zero n = omega arith
steps_shifted (suc count) n =
    let wide : n * 2 ^ suc count ≡ n * 2 ^ count * 2 = omega (arith, ap (λ p. n * p) (pow-suc 2 count)) in
    ap (λ x. bit_steps count (bit_step x)) wide ∙ ap (bit_steps count) (doubled (n * 2 ^ count)) ∙ steps_shifted count n

-- ---- no number but 0 becomes 0

pub same_of_none : (a b : ℕ) → bit_xor a b ≡ 0 → b ≡ a
same_of_none a b none =
    let twice : bit_xor a (bit_xor a b) ≡ b = sym (xor_assoc a a b) ∙ ap (λ x. bit_xor x b) (xor_self a) in
    sym twice ∙ ap (bit_xor a) none ∙ xor_zero_r a

step_apart : (n : ℕ) → 0 < n → n < 2 ^ 32 → (0 < bit_step n) × (bit_step n < 2 ^ 32)
step_apart n positive small =
    elim (cases_eq (n % 2) 1) [
      | inl one ↦
          let low : n / 2 < 2147483648 = omega (arith, small) in
          let below : bit_xor (n / 2) generator < 2 ^ 32 = xor_lt 32 (n / 2) generator (omega (arith, low)) (omega arith) in
          let some : 0 < bit_xor (n / 2) generator = elim (cases_eq (bit_xor (n / 2) generator) 0) [
            | inl none ↦ absurd (omega (arith, low, same_of_none (n / 2) generator none))
            | inr some ↦ omega (arith, some)
          ] in
          rw (odd n one) (some, below)
      | inr not_one ↦
          let none : n % 2 ≡ 0 = omega arith in
          rw (even n none) (omega (arith, positive, none), omega (arith, small))
    ]

pub steps_apart : (count n : ℕ) → 0 < n → n < 2 ^ 32 → 0 < bit_steps count n
unfolding bit_steps
steps_apart zero n positive small = positive
steps_apart (suc count) n positive small =
    let next = step_apart n positive small in
    steps_apart count (bit_step n) next.0 next.1
