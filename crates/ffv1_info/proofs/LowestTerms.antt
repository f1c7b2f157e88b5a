-- The greatest number that divides two.
use Rattle.std.proofs.Common.{◌≡◌, ℕ, suc, zero, ◌≤◌, ◌<◌, ◌%◌, ◌==◌, Bool, true, false, inl, inr, arith, refl, subst}
use Rattle.std.proofs.lemmas.Bool.{eqb-true, eq-eqb, cases_eq, cases_lt}
use Rattle.std.proofs.lemmas.Nat.Gcd.{dvd_of_mod-eq-zero, le_of_dvd}
use Rattle.ffv1_matroska.specs.Rates.{common_up_to}

-- it divides both, and none up to there does that is greater
record Greatest (a b n d : ℕ) : Type 0 where
  first : a % d ≡ 0
  second : b % d ≡ 0
  most : (m : ℕ) → 0 < m → m ≤ n → a % m ≡ 0 → b % m ≡ 0 → m ≤ d

greatest : (a b n : ℕ) → Greatest a b n (common_up_to a b n)
unfolding common_up_to
greatest a b zero = record { first = omega arith; second = omega arith; most = λ m some few x y. absurd (omega (arith, some, few)) }
greatest a b (suc n) = by (a % suc n == 0) (b % suc n == 0) refl refl (greatest a b n)
  where
    below : (m : ℕ) → m ≤ suc n → (m ≡ suc n → ⊥) → m ≤ n
    below m few other = elim (cases_lt n m) [ inl above ↦ absurd (other (omega (arith, few, above))) | inr within ↦ within ]

    not_so : (x : ℕ) → x ≡ 0 → (x == 0) ≡ false → ⊥
    not_so x is differs = let same : (x == 0) ≡ true = eq-eqb x 0 is in absurd (cc)

    by : (p q : Bool) → (a % suc n == 0) ≡ p → (b % suc n == 0) ≡ q → Greatest a b n (common_up_to a b n) → Greatest a b (suc n) (common_up_to a b (suc n))
    by true true t u on = rw (t, u) (record { first = eqb-true _ _ t; second = eqb-true _ _ u; most = λ m some few x y. few })
    by true false t u on =
        rw (t, u) (record {
          first = on.first;
          second = on.second;
          most = λ m some few x y. elim (cases_eq m (suc n)) [
            | inl same ↦ absurd (not_so (b % suc n) (subst (λ z. b % z ≡ 0) same y) u)
            | inr other ↦ on.most m some (below m few other) x y
          ];
        })
    by false q t u on =
        rw t (record {
          first = on.first;
          second = on.second;
          most = λ m some few x y. elim (cases_eq m (suc n)) [
            | inl same ↦ absurd (not_so (a % suc n) (subst (λ z. a % z ≡ 0) same x) t)
            | inr other ↦ on.most m some (below m few other) x y
          ];
        })

pub lowest : (a b : ℕ) → 0 < b → (a % common_up_to a b b ≡ 0) × (b % common_up_to a b b ≡ 0) × ((m : ℕ) → 0 < m → a % m ≡ 0 → b % m ≡ 0 → m ≤ common_up_to a b b)
lowest a b some =
    let d = greatest a b b in
    (d.first, d.second, (λ m least x y. d.most m least (le_of_dvd some (dvd_of_mod-eq-zero m y)) x y))
