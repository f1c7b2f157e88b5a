-- The bits of a number, one after another.
use Rattle.std.proofs.Common.{◌≡◌, refl, ℕ, suc, ◌+◌, ◌-◌, ◌*◌, ◌/◌, ◌%◌, ◌^◌, ◌<◌, ◌≤◌, Bool, true}
use Rattle.std.proofs.Common.{false, List, inl, inr, [], ◌∷◌, ◌++◌, ◌==◌, ap, ◌∙◌, min, arith}
use Rattle.std.proofs.lemmas.Nat.{pow_below, shr-shr}
use Rattle.std.proofs.lemmas.Bool.{cases_eq}
use mir.Val.{bool_byte}
use Rattle.std.proofs.Math.Nat.{pow-succ'}
use Rattle.ffv1_range.specs.Weight.{one_if}
use Rattle.ffv1_range.specs.Table.{Table}
use Rattle.ffv1_range.specs.Reading.{Reading}
use Rattle.ffv1_range.specs.Symbols.{mantissa_steps}
use Rattle.ffv1_range.specs.Internal.Registers.{Reads}
use Rattle.ffv1_range.proofs.Steps.{reads_append}

-- one bit more fits
pub next_fits : (exponent place number : ℕ) → exponent < 31 → 0 < place → place ≤ exponent → number
    < 2 * 2 ^ (exponent - place) → number * 2 + 1 < 2 ^ 32
next_fits exponent place number small positive below most =
    let power = pow_below (exponent - place) 30 (omega arith) in
    omega arith

pub longer : (exponent place : ℕ) → 0 < place → place ≤ exponent → exponent - (place - 1) ≡ suc
    (exponent - place)
longer exponent place positive below = omega arith

pub mantissa_bit : (count place number : ℕ) (bit : Bool) → 0 < place →
    mantissa_steps (suc count) (place - 1) (number * 2 + one_if bit) ≡ mantissa_steps count place
    number ++ (record { slot = 22 + min (place - 1) 9; bit = bit } ∷ [])
mantissa_bit count place number true positive =
    let up : suc (place - 1) ≡ place = omega arith in
    let half : (number * 2 + 1) / 2 ≡ number = omega arith in
    let odd : (number * 2 + 1) % 2 ≡ 1 = omega arith in
    rw (up, half, odd) refl
mantissa_bit count place number false positive =
    let up : suc (place - 1) ≡ place = omega arith in
    let half : (number * 2 + 0) / 2 ≡ number = omega arith in
    let even : (number * 2 + 0) % 2 ≡ 0 = omega arith in
    rw (up, half, even) refl

-- a bit of a number counts as itself
pub one_if_odd : (n : ℕ) → one_if ((n % 2) == 1) ≡ n % 2
one_if_odd n = elim (cases_eq (n % 2) 1) [
  | inl one ↦ rw one refl
  | inr other ↦ let zero : n % 2 ≡ 0 = omega arith in rw zero refl
]

pub mantissa_next : (count place number : ℕ) → 0 < place →
    mantissa_steps (suc count) (place - 1) (number / 2 ^ (place - 1)) ≡ mantissa_steps count place
    (number / 2 ^ place) ++ (record {
      slot = 22 + min (place - 1) 9;
      bit =
          (number / 2 ^ (place - 1) % 2) == 1;
    } ∷ [])
mantissa_next count place number positive =
    let up : suc (place - 1) ≡ place = omega arith in
    let down : place - 1 + 1 ≡ place = omega arith in
    let half : number / 2 ^ (place - 1) / 2 ≡ number / 2 ^ place = shr-shr number (place - 1) 1 ∙
    ap (λ k. number / 2 ^ k) down in
    rw (up, half) refl

pub bit_is : (b : Bool) → bool_byte b ≡ one_if b
bit_is true = refl
bit_is false = refl

pub one_if_most : (b : Bool) → one_if b ≤ 1
one_if_most true = omega arith
one_if_most false = omega arith

-- a bit more of a number is read, for which there is room
pub bit_fits : (exponent place number bit : ℕ) (b : Bool) → exponent < 31 → 0 < place →
    place ≤ exponent → number < 2 * 2 ^ (exponent - place) → bit ≡ bool_byte b →
    number * 2 + bit < 2 ^ 32
bit_fits exponent place number bit b small positive below most is =
    let fits = next_fits exponent place number small positive below most in
    let one = one_if_most b in
    omega (arith, is ∙ bit_is b)

pub record BitsRead (t : Table) (old : Reading) (ss : List ℕ) (new : Reading) (ts : List ℕ)
    (exponent place number : ℕ) : Type 0 where
  pub least : 2 ^ (exponent - place) ≤ number
  pub most : number < 2 * 2 ^ (exponent - place)
  pub reads : Reads t old ss new ts (mantissa_steps (exponent - place) place number)

pub bit_read : (t : Table) (old mid new : Reading) (ss us ts : List ℕ)
    (exponent place number bit : ℕ) (b : Bool) → 0 < place → place ≤ exponent →
    2 ^ (exponent - place) ≤ number → number < 2 * 2 ^ (exponent - place) →
    bit ≡ bool_byte b →
    Reads t old ss mid us (mantissa_steps (exponent - place) place number) →
    Reads t mid us new ts (record { slot = 22 + min (place - 1) 9; bit = b } ∷ []) →
    BitsRead t old ss new ts exponent (place - 1) (number * 2 + bit)
bit_read t old mid new ss us ts exponent place number bit b positive below least most is reads
    last =
    let more = longer exponent place positive below in
    let is = is ∙ bit_is b in
    let one = one_if_most b in
    let steps = mantissa_bit (exponent - place) place number b positive in
    record {
      least = rw (more, pow-succ' 2) (omega arith);
      most = rw (more, pow-succ' 2) (omega arith);
      reads = rw (more, is, steps) (reads_append _ _ _ _ _ _ _ _ _ reads last);
    }
