-- Numbers that are equal but for a multiple, and remainders.
use Rattle.std.proofs.Common.{◌≡◌, refl, ap, ◌∙◌, sym, ℕ, suc, ◌+◌, ◌-◌, ◌*◌, ◌/◌, ◌%◌, ◌^◌, ◌<◌, ◌≤◌, arith, ℤ, pos, negsuc, ◌+ℤ◌, ◌-ℤ◌, inl, inr}
use Rattle.std.proofs.lemmas.Int.{ints, int_rem_euclid_is}
use Rattle.std.proofs.Math.Nat.{add-mul-mod_self_right, mul-le-mul_left, mod-add-div', mod-lt, mod-eq_of_lt}
use Rattle.std.proofs.lemmas.Bool.{cases_lt, le-ltb}
use Rattle.std.specs.Int.{int_rem_euclid, w32}
use mir.Val.{to_z, of_z, SFits}

-- x and y differ by a multiple of n
pub record IsCongruent (n : ℕ) (x y : ℤ) : Type 0 where
  pub down : ℕ
  pub up : ℕ
  pub same : x +ℤ pos (down * n) ≡ y +ℤ pos (up * n)

-- a natural that a number is congruent to
record Natural (n : ℕ) (x : ℤ) : Type 0 where
  times : ℕ
  number : ℕ
  same : x +ℤ pos (times * n) ≡ pos number

natural : (n : ℕ) (x : ℤ) → 0 < n → Natural n x
natural n (pos a) h = record { times = 0; number = a; same = omega (arith, ints) }
natural n (negsuc a) h = record { times = suc a; number = suc a * n - suc a; same = let big : suc a * 1 ≤ suc a * n = mul-le-mul_left {m = 1} {n = n} (suc a) (omega arith) in omega (arith, ints) }

pub rem-congruent : (n : ℕ) (x y : ℤ) → 0 < n → IsCongruent n x y → int_rem_euclid x (pos n) ≡ int_rem_euclid y (pos n)
rem-congruent n x y h is =
    let a = natural n x h in
    let b = natural n y h in
    let one = a.same in
    let two = b.same in
    let both = is.same in
    let sum : a.number + (is.down + b.times) * n ≡ b.number + (is.up + a.times) * n = omega (arith, ints) in
    int_rem_euclid_is x (pos n) n a.times a.number h refl one
    ∙ ap pos (sym (add-mul-mod_self_right a.number (is.down + b.times) n) ∙ ap (λ k. k % n) sum ∙ add-mul-mod_self_right b.number (is.up + a.times) n)
    ∙ sym (int_rem_euclid_is y (pos n) n b.times b.number h refl two)

-- a number and its remainder
pub record Divided (n : ℕ) (x : ℤ) : Type 0 where
  pub rest : ℕ
  pub small : rest < n
  pub is : int_rem_euclid x (pos n) ≡ pos rest
  pub near : IsCongruent n x (pos rest)

pub divided : (n : ℕ) (x : ℤ) → 0 < n → Divided n x
divided n x h =
    let a = natural n x h in
    let one = a.same in
    let whole = mod-add-div' a.number n in
    record {
      rest = a.number % n;
      small = mod-lt a.number h;
      is = int_rem_euclid_is x (pos n) n a.times a.number h refl one;
      near = record { down = a.times; up = a.number / n; same = omega (arith, ints) };
    }

-- the only number of a remainder's range that is congruent
pub rem_is : (n : ℕ) (x : ℤ) (r : ℕ) → r < n → IsCongruent n x (pos r) → int_rem_euclid x (pos n) ≡ pos r
rem_is n x r h is = rem-congruent n x (pos r) (omega arith) is ∙ ap pos (mod-eq_of_lt h)

-- a multiple of a multiple
pub congruent_factor : (m n c : ℕ) (x y : ℤ) → m ≡ c * n → IsCongruent m x y → IsCongruent n x y
congruent_factor m n c x y whole is =
    let same = rw whole at is.same in
    record { down = is.down * c; up = is.up * c; same = omega (arith, ints) }

pub signed_near : (m : ℕ) → m < 4294967296 → IsCongruent 4294967296 (to_z w32 m) (pos m)
signed_near m h = elim (cases_lt m 2147483648) [
  | inl low ↦ record { down = 0; up = 0; same = omega (arith, ints) }
  | inr high ↦ record { down = 1; up = 0; same = rw (le-ltb m 2147483648 high) (omega (arith, ints)) }
]

pub unsigned_near : (p : ℤ) → SFits w32 p → IsCongruent 4294967296 p (pos (of_z w32 p))
unsigned_near (pos a) fits = record { down = 0; up = 0; same = omega (arith, ints) }
unsigned_near (negsuc a) fits = record { down = 1; up = 0; same = omega (arith, ints) }

-- a difference by the rules of 32 bits
pub wrapped_sub : (p : ℤ) (s : ℕ) → SFits w32 p → s < 2 ^ 16 → IsCongruent 4294967296 (to_z w32 ((of_z w32 p + (4294967296 - s)) % 4294967296)) (p -ℤ pos s)
wrapped_sub p s fits small =
    let all = of_z w32 p + (4294967296 - s) in
    let signed = signed_near (all % 4294967296) (omega arith) in
    let unsigned = unsigned_near p fits in
    let one = signed.same in
    let two = unsigned.same in
    record { down = signed.down + all / 4294967296 + unsigned.up; up = unsigned.down + signed.up + 1; same = omega (arith, ints) }

pub congruent_add : (n : ℕ) (x y z : ℤ) → IsCongruent n x y → IsCongruent n (x +ℤ z) (y +ℤ z)
congruent_add n x y z is = let same = is.same in record { down = is.down; up = is.up; same = omega (arith, ints) }
