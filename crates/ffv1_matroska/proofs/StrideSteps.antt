-- The stride once there is one more Cluster.
use Rattle.std.proofs.Common.{◌≡◌, ◌≤◌, ◌<◌, ◌+◌, ◌*◌, ◌^◌, ◌∙◌, ℕ, suc, zero, true, false, nat_le, inl, inr, refl, ap, arith}
use Rattle.std.proofs.Math.Nat.{pow-succ'}
use Rattle.std.proofs.lemmas.Bool.{cases_lt, le-leb, lt-leb}
use Rattle.ffv1_matroska.specs.WrittenPlaces.{stride_from}

-- it stays while there is room for one more
pub stride_stays : (others s n : ℕ) → n + 1 ≤ 8192 * stride_from others s n → stride_from others s (n + 1) ≡ stride_from others s n
unfolding stride_from
stride_stays zero s n room = refl
stride_stays (suc others) s n room = elim (cases_lt (8192 * s) n) [
  | inl more ↦
      let now : nat_le n (8192 * s) ≡ false = lt-leb n (8192 * s) more in
      let next : nat_le (n + 1) (8192 * s) ≡ false = lt-leb (n + 1) (8192 * s) (omega (arith, more)) in
      rw (now, next) (stride_stays others (2 * s) n (rw now at room))
  | inr fewer ↦
      let now : nat_le n (8192 * s) ≡ true = le-leb n (8192 * s) (omega (arith, fewer)) in
      let next : nat_le (n + 1) (8192 * s) ≡ true = le-leb (n + 1) (8192 * s) (rw now at room) in
      rw (now, next) refl
]

-- and is twice as much if there is none
pub stride_doubles : (others s n : ℕ) → 0 < s → n + 1 ≤ 8192 * (2 ^ others * s) → 8192 * stride_from others s n ≤ n → stride_from others s (n + 1) ≡ 2 * stride_from others s n
unfolding stride_from
stride_doubles zero s n some few full = let one : 2 ^ 0 * s ≡ s = omega arith in absurd (omega (arith, one, few, full))
stride_doubles (suc others) s n some few full = elim (cases_lt (8192 * s) n) [
  | inl more ↦
      let now : nat_le n (8192 * s) ≡ false = lt-leb n (8192 * s) more in
      let next : nat_le (n + 1) (8192 * s) ≡ false = lt-leb (n + 1) (8192 * s) (omega (arith, more)) in
      let same : 2 ^ suc others * s ≡ 2 ^ others * (2 * s) = ap (λ k. k * s) (pow-succ' 2 others) ∙ (grind arith) in
      rw (now, next) (stride_doubles others (2 * s) n (omega (arith, some)) (rw same at few) (rw now at full))
  | inr fewer ↦
      let now : nat_le n (8192 * s) ≡ true = le-leb n (8192 * s) (omega (arith, fewer)) in
      let whole = rw now at full in
      let next : nat_le (n + 1) (8192 * s) ≡ false = lt-leb (n + 1) (8192 * s) (omega (arith, whole)) in
      let again : nat_le (n + 1) (8192 * (2 * s)) ≡ true = le-leb (n + 1) (8192 * (2 * s)) (omega (arith, some, fewer)) in
      rw (now, next) (doubled others (2 * s) (n + 1) again)
]
  where
    doubled : (others s n : ℕ) → nat_le n (8192 * s) ≡ true → stride_from others s n ≡ s
    doubled zero s n t = refl
    doubled (suc others) s n t = rw t refl

-- it is enough
pub stride_enough : (others s n : ℕ) → n ≤ 8192 * (2 ^ others * s) → n ≤ 8192 * stride_from others s n
unfolding stride_from
stride_enough zero s n few = let one : 2 ^ 0 * s ≡ s = omega arith in omega (arith, one, few)
stride_enough (suc others) s n few = elim (cases_lt (8192 * s) n) [
  | inl more ↦
      let now : nat_le n (8192 * s) ≡ false = lt-leb n (8192 * s) more in
      let same : 2 ^ suc others * s ≡ 2 ^ others * (2 * s) = ap (λ k. k * s) (pow-succ' 2 others) ∙ (grind arith) in
      rw now (stride_enough others (2 * s) n (rw same at few))
  | inr fewer ↦
      let now : nat_le n (8192 * s) ≡ true = le-leb n (8192 * s) (omega (arith, fewer)) in
      rw now (omega (arith, fewer))
]

pub stride_some : (others s n : ℕ) → 0 < s → 0 < stride_from others s n
unfolding stride_from
stride_some zero s n some = some
stride_some (suc others) s n some = elim (cases_lt (8192 * s) n) [
  | inl more ↦ rw (lt-leb n (8192 * s) more) (stride_some others (2 * s) n (omega (arith, some)))
  | inr fewer ↦ let now : nat_le n (8192 * s) ≡ true = le-leb n (8192 * s) (omega (arith, fewer)) in rw now some
]
