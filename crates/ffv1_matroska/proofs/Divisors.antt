-- Greatest common divisors.
use Rattle.std.proofs.Common.{◌≡◌, ℕ, suc, zero, ◌≤◌, ◌<◌, ◌%◌, ◌==◌, Bool, true, false, inl, inr, sym, arith, refl}
use Rattle.std.proofs.lemmas.Bool.{eqb-true, eq-eqb, cases_eq, cases_lt}
use Rattle.std.proofs.lemmas.Nat.Gcd.{dvd_of_mod-eq-zero, mod-eq-zero_of_dvd, le_from_IsGcd}
use Rattle.std.specs.Int.{IsGcd}
use Rattle.ffv1_matroska.specs.Rates.{common_up_to}

-- the greatest number that divides both is the one that is found from above
pub common_is : (a b g n : ℕ) → 0 < g → IsGcd a b g → g ≤ n → common_up_to a b n ≡ g
unfolding common_up_to
common_is a b g zero some is most = absurd (omega (arith, some, most))
common_is a b g (suc n) some is most = elim (cases_eq g (suc n)) [ inl same ↦ here same | inr other ↦ below (common_is a b g n some is) other (a % suc n == 0) (b % suc n == 0) refl refl ]
  where
    here : g ≡ suc n → common_up_to a b (suc n) ≡ g
    here same =
        let p : (a % suc n == 0) ≡ true = eq-eqb _ _ (rw same at (mod-eq-zero_of_dvd g is.0)) in
        let q : (b % suc n == 0) ≡ true = eq-eqb _ _ (rw same at (mod-eq-zero_of_dvd g is.1)) in
        rw (p, q) (sym same)

    less : (g ≡ suc n → ⊥) → g ≤ n
    less other = elim (cases_lt n g) [ inl above ↦ absurd (other (omega (arith, most, above))) | inr within ↦ within ]

    below : (g ≤ n → common_up_to a b n ≡ g) → (g ≡ suc n → ⊥) → (p q : Bool) → (a % suc n == 0) ≡ p → (b % suc n == 0) ≡ q → common_up_to a b (suc n) ≡ g
    below on other true true t u =
        let both = le_from_IsGcd a b g (suc n) is some (dvd_of_mod-eq-zero (suc n) (eqb-true _ _ t)) (dvd_of_mod-eq-zero (suc n) (eqb-true _ _ u)) in
        absurd (omega (arith, both, less other))
    below on other true false t u = rw (t, u) (on (less other))
    below on other false q t u = rw t (on (less other))
