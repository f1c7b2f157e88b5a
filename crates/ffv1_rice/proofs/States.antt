-- States of contexts stay within their bounds.
use Rattle.std.proofs.Common.{◌≡◌, refl, sym, ◌∙◌, ap, ℕ, zero, suc, ◌+◌, ◌-◌, ◌*◌, ◌^◌, ◌<◌, ◌≤◌}
use Rattle.std.proofs.Common.{Bool, true, false, inl, inr, arith, ℤ, pos, negsuc, ◌+ℤ◌, ◌-ℤ◌, ◌<ℤ◌}
use Rattle.std.proofs.Common.{◌≤ℤ◌}
use Rattle.std.proofs.Common.{unsigned_abs, int_le, int_lt, pow_mono, le-leb, eq-eqb, ne_eqb}
use Rattle.std.proofs.Common.{mul-le-mul_left, mul-le-mul_right, ap₂, to_z, of_z, w32}
use Rattle.std.proofs.lemmas.Int.{ints, clamps, by_lt_z}
use Rattle.std.proofs.lemmas.Bool.{cases_lt, cases_eq, lt-leb}
use Rattle.std.proofs.Math.Nat.{pow-succ'}
use Rattle.std.specs.Int.{int_div_euclid}
use Rattle.ffv1_rice.specs.declared.state.State.{State}
use Rattle.ffv1_rice.specs.States.{fresh, IsState, IsNearState, parameter_from, halved, biased}
use Rattle.ffv1_rice.specs.States.{summed}
use Rattle.ffv1_rice.specs.States.{counted, after}

-- half of a number of so many bits
pub half_small : (bits : ℕ) → bits ≤ 9 → 2 ^ (bits - 1) ≤ 256
half_small bits few = pow_mono {i = bits - 1} {j = 8} (omega (arith, few))

-- one difference more, of at most half
pub record IsSummed (half : ℕ) (s : State) : Type 0 where
  pub some : 1 ≤ s.count
  pub few : s.count ≤ 128
  pub above : (pos 0 -ℤ pos (s.count + half)) <ℤ s.drift
  pub below : s.drift ≤ℤ pos half
  pub least : (pos 0 -ℤ pos 128) ≤ℤ s.bias
  pub most : s.bias ≤ℤ pos 127
  pub sum : s.error_sum ≤ s.count * half + half

pub is_summed : (bits : ℕ) (s : State) (v : ℤ) → IsState bits s →
    unsigned_abs v ≤ 2 ^ (bits - 1) → IsSummed (2 ^ (bits - 1)) (summed s v)
is_summed bits s v is size =
    let above = is.above in
    let below = is.below in
    let sum = is.sum in
    record {
      some = is.some;
      few = is.few;
      above = omega (arith, ints, above, size);
      below = omega (arith, ints, below, size);
      least = is.least;
      most = is.most;
      sum = omega (arith, sum, size);
    }

-- the same with one difference more in the count
pub record IsCounted (half : ℕ) (s : State) : Type 0 where
  pub some : 1 ≤ s.count
  pub few : s.count ≤ 128
  pub above : (pos 0 -ℤ pos (s.count + half)) ≤ℤ s.drift
  pub below : s.drift ≤ℤ pos half
  pub least : (pos 0 -ℤ pos 128) ≤ℤ s.bias
  pub most : s.bias ≤ℤ pos 127
  pub sum : s.error_sum ≤ s.count * half

half_above : (d : ℤ) (n : ℕ) → (pos 0 -ℤ pos (128 + n)) <ℤ d →
    (pos 0 -ℤ pos (65 + n)) ≤ℤ int_div_euclid d (pos 2)
half_above (pos d) n above = omega (arith, ints)
half_above (negsuc d) n above = omega (arith, ints, above)

half_below : (d : ℤ) (n : ℕ) → d ≤ℤ pos n → int_div_euclid d (pos 2) ≤ℤ pos n
half_below (pos d) n below = omega (arith, ints, below)
half_below (negsuc d) n below = omega (arith, ints)

pub is_counted : (half : ℕ) (s : State) → IsSummed half s → IsCounted half (counted (halved s))
is_counted half s is = elim (cases_eq s.count 128) [
  | inl same ↦
      let above = is.above in
      let sum = is.sum in
      let whole : s.count * half ≡ 128 * half = ap (λ k. k * half) same in
      rw (eq-eqb s.count 128 same) (record {
        some = omega arith;
        few = omega arith;
        above = half_above s.drift half (rw same at above);
        below = half_below s.drift half is.below;
        least = is.least;
        most = is.most;
        sum = omega (arith, sum, whole);
      })
  | inr other ↦
      let above = is.above in
      let few = is.few in
      let sum = is.sum in
      rw (ne_eqb s.count 128 other) (record {
        some = omega arith;
        few = omega (arith, few, other);
        above = omega (arith, ints, above);
        below = is.below;
        least = is.least;
        most = is.most;
        sum = omega (arith, sum);
      })
]

pub is_near : (half : ℕ) (s : State) → half ≤ 256 → IsCounted half s → IsNearState s
is_near half s small is =
    let above = is.above in
    let below = is.below in
    let least = is.least in
    let most = is.most in
    let few = is.few in
    record {
      few = is.few;
      near = omega (arith, ints, above, below, small, few);
      bias_near = omega (arith, ints, least, most);
    }

pub is_biased : (bits : ℕ) (s : State) → 2 ^ (bits - 1) ≤ 256 → IsCounted (2 ^ (bits - 1)) s →
    IsState bits (biased s)
is_biased bits s small is =
    let above = is.above in
    let below = is.below in
    let least = is.least in
    let most = is.most in
    let some = is.some in
    by_lt_z (pos 0 -ℤ pos s.count) s.drift
    (λ high. let low : int_le s.drift (pos 0 -ℤ pos s.count) ≡ false = grind (arith, ints, high) in
    by_lt_z (pos 0) s.drift
    (λ over. let up : int_lt (pos 0) s.drift ≡ true = grind (arith, ints, over) in
    rw (low, up) (record {
      some = some;
      few = is.few;
      above = omega (arith, ints, clamps, over, some);
      below = omega (arith, ints, clamps);
      least = omega (arith, ints, clamps, least);
      most = omega (arith, ints, clamps);
      sum = is.sum;
    }))
    (λ under. let up : int_lt (pos 0) s.drift ≡ false = grind (arith, ints, under) in
    rw (low, up) (record {
      some = some;
      few = is.few;
      above = high;
      below = under;
      least = least;
      most = most;
      sum = is.sum;
    })))
    (λ beyond. let low : int_le s.drift (pos 0 -ℤ pos s.count) ≡ true = grind
    (arith, ints, beyond) in
    rw low (record {
      some = some;
      few = is.few;
      above = omega (arith, ints, clamps, some);
      below = omega (arith, ints, clamps, beyond, some);
      least = omega (arith, ints, clamps);
      most = omega (arith, ints, clamps, most);
      sum = is.sum;
    }))

pub is_after : (bits : ℕ) (s : State) (v : ℤ) → bits ≤ 9 → IsState bits s →
    unsigned_abs v ≤ 2 ^ (bits - 1) → IsState bits (after s v)
is_after bits s v few is size =
    is_biased bits (counted (halved (summed s v))) (half_small bits few)
    (is_counted (2 ^ (bits - 1)) (summed s v) (is_summed bits s v is size))

-- ---- as numbers of 32 bits

pub summed_is : (bits : ℕ) (s : State) (v : ℤ) (sum : ℕ) → bits ≤ 9 → IsState bits s → unsigned_abs
    v ≤ 2 ^ (bits - 1) →
    sum ≡ unsigned_abs (to_z w32 (of_z w32 v)) →
    record {
      drift = to_z w32 (of_z w32 (to_z w32 (of_z w32 s.drift) +ℤ to_z w32 (of_z w32 v)));
      error_sum = s.error_sum + sum;
      bias = to_z w32 (of_z w32 s.bias);
      count = s.count;
    } ≡ summed s v
summed_is bits s v sum narrow is size same =
    let small = half_small bits narrow in
    let above = is.above in
    let below = is.below in
    let few = is.few in
    let least = is.least in
    let most = is.most in
    let value : to_z w32 (of_z w32 v) ≡ v = omega (arith, ints, size, small) in
    let drift : to_z w32 (of_z w32 (to_z w32 (of_z w32 s.drift) +ℤ to_z w32 (of_z w32 v))) ≡ s.drift
    +ℤ v = omega (arith, ints, size, small, above, below, few) in
    let bias : to_z w32 (of_z w32 s.bias) ≡ s.bias = omega (arith, ints, least, most) in
    let error : s.error_sum + sum ≡ s.error_sum + unsigned_abs v = ap (λ n. s.error_sum + n)
    (same ∙ ap unsigned_abs value) in
    rw (drift, bias, error) refl

pub counted_is : (half : ℕ) (s : State) → half ≤ 256 → IsCounted half (counted s) →
    record {
      drift = to_z w32 (of_z w32 s.drift);
      error_sum = s.error_sum;
      bias = to_z w32 (of_z w32 s.bias);
      count = s.count + 1;
    } ≡ counted s
counted_is half s small is =
    let above = is.above in
    let below = is.below in
    let few = is.few in
    let least = is.least in
    let most = is.most in
    let drift : to_z w32 (of_z w32 s.drift) ≡ s.drift =
    omega (arith, ints, small, above, below, few) in
    let bias : to_z w32 (of_z w32 s.bias) ≡ s.bias = omega (arith, ints, least, most) in
    ap₂ (λ d b. record { drift = d; error_sum = s.error_sum; bias = b; count = s.count + 1 }) drift
    bias

pub same_order : (b : Bool) (x y d n : ℤ) → int_le x y ≡ b → x ≡ d → y ≡ n → int_le d n ≡ b
same_order b x y d n is one two = sym (ap₂ int_le one two) ∙ is

-- ---- the parameter

-- it is not yet large enough, so that there is room for one more
pub parameter_room : (bits k : ℕ) (s : State) → IsState bits s → 0 < bits →
    s.count * 2 ^ k < s.error_sum → k + 1 < bits
parameter_room bits k s is some less = elim (cases_lt (k + 1) bits) [
  | inl room ↦ room
  | inr none ↦
      let sum = is.sum in
      let powers : 2 ^ (bits - 1) ≤ 2 ^ k = pow_mono {i = bits - 1} {j = k} (omega (arith, none)) in
      let products : s.count * 2 ^ (bits - 1) ≤ s.count * 2 ^ k = mul-le-mul_left
      {m = 2 ^ (bits - 1)} {n = 2 ^ k} s.count powers in
      absurd (omega (arith, less, sum, products))
]

pub parameter_below : (bits n k : ℕ) (s : State) → IsState bits s → 0 < bits → k < bits →
    parameter_from n k s < bits
unfolding parameter_from
parameter_below bits zero k s is some few = few
parameter_below bits (suc n) k s is some few = elim (cases_lt (s.count * 2 ^ k) s.error_sum) [
  | inl less ↦
      let room = parameter_room bits k s is some less in
      rw (lt-leb s.error_sum (s.count * 2 ^ k) less)
      (parameter_below bits n (suc k) s is some (omega (arith, room)))
  | inr enough ↦ rw (le-leb s.error_sum (s.count * 2 ^ k) enough) few
]

below_power : (k : ℕ) → k < 2 ^ k
below_power zero = omega arith
below_power (suc k) = let less = below_power k in let twice = pow-succ' 2 k in
    omega (arith, less, twice)

pub parameter_here : (n k : ℕ) (s : State) → s.error_sum ≤ s.count * 2 ^ k →
    parameter_from n k s ≡ k
unfolding parameter_from
parameter_here zero k s enough = refl
parameter_here (suc n) k s enough = rw (le-leb s.error_sum (s.count * 2 ^ k) enough) refl

-- what is left to be tried
pub record Tries (whole k : ℕ) (s : State) : Type 0 where
  pub left : ℕ
  pub sum : left + k ≡ s.error_sum
  pub same : parameter_from left k s ≡ whole

tries_more : (whole k : ℕ) (s : State) → 1 ≤ s.count → s.count * 2 ^ k < s.error_sum →
    (left : ℕ) → left + k ≡ s.error_sum → parameter_from left k s ≡ whole → Tries whole (k + 1) s
unfolding parameter_from
tries_more whole k s some less zero sum same =
    let power = below_power k in
    let product : 1 * 2 ^ k ≤ s.count * 2 ^ k = mul-le-mul_right {m = 1} {n = s.count} (2 ^ k)
    some in
    absurd (omega (arith, less, sum, power, product))
tries_more whole k s some less (suc left) sum same =
    let next : suc k ≡ k + 1 = omega arith in
    let on : parameter_from left (suc k) s ≡ whole = rw (lt-leb s.error_sum (s.count * 2 ^ k) less)
    at same in
    record {
      left = left;
      sum = omega (arith, sum);
      same = rw next at on;
    }

pub tries_next : (whole k : ℕ) (s : State) → 1 ≤ s.count → s.count * 2 ^ k < s.error_sum →
    Tries whole k s → Tries whole (k + 1) s
tries_next whole k s some less tries =
    tries_more whole k s some less tries.left tries.sum tries.same

-- ---- what is known before the first difference

pub is_fresh : (bits : ℕ) → 3 ≤ bits → IsState bits fresh
is_fresh bits some =
    let least : 2 ^ 2 ≤ 2 ^ (bits - 1) = pow_mono {i = 2} {j = bits - 1} (omega (arith, some)) in
    record {
      some = omega arith;
      few = omega arith;
      above = omega (arith, ints);
      below = omega (arith, ints);
      least = omega (arith, ints);
      most = omega (arith, ints);
      sum = omega (arith, least);
    }
