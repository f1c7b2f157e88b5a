-- Where the parts of a side lie.
use Rattle.std.proofs.Common.{◌≡◌, ℕ, zero, suc, ◌+◌, ◌-◌, ◌<◌, ◌≤◌, sym, subst, arith}
use Rattle.ffv1_slice.specs.Grid.{Side, begin_of, first_of, coded_of}
use Rattle.ffv1_decode.specs.Internal.Places.{AreParts}

module _ (s : Side) (are : AreParts s) where
  rises_by : (d k : ℕ) → k + d ≤ s.count → begin_of s k ≤ begin_of s (k + d)
  rises_by zero k h = let same : k + 0 ≡ k = omega arith in subst (λ n. begin_of s k ≤ begin_of s n) (sym same) (omega arith)
  rises_by (suc d) k h =
      let before = rises_by d k (omega (arith, h)) in
      let next = are.next (k + d) (omega (arith, h)) in
      let same : suc (k + d) ≡ k + suc d = omega arith in
      subst (λ n. begin_of s k ≤ begin_of s n) same (omega (arith, before, next))

  pub rises : (j k : ℕ) → j ≤ k → k ≤ s.count → begin_of s j ≤ begin_of s k
  rises j k less upto =
      let same : j + (k - j) ≡ k = omega (arith, less) in
      let h = rises_by (k - j) j (omega (arith, less, upto)) in
      subst (λ n. begin_of s j ≤ begin_of s n) same h

  -- a cell ends at or before the own part of a later one begins
  pub before : (j k : ℕ) → j < k → k < s.count → first_of s j + coded_of s j ≤ begin_of s k
  before j k less here = rises (suc j) k (omega (arith, less)) (omega (arith, here))

  -- and within the whole
  pub inside : (k : ℕ) → k < s.count → first_of s k + coded_of s k ≤ s.size
  inside k h =
      let ends = are.ends k h in
      let fits = are.fits in
      omega (arith, ends, fits)
