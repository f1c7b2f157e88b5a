-- Edges of the parts of a size, and sizes over a chroma factor.
use Rattle.std.proofs.Common.{◌≡◌, refl, ℕ, zero, suc, ◌+◌, ◌-◌, ◌*◌, ◌/◌, ◌%◌, ◌^◌, ◌<◌, ◌≤◌, ◌==◌, ◌&&◌, Bool, true, false, ap, sym, subst, ◌∙◌, arith, inl, inr, pow_pos, div-add-mod', rules, List}
use Rattle.std.specs.List.{list_all, range_with_len}
use Rattle.std.proofs.lemmas.Nat.{div-mul-add, mod-mul-add, div_below, le-div}
use Rattle.std.proofs.lemmas.Bool.{cases_eq, eq-eqb, eqb-true}
use Rattle.ffv1_plane.specs.Quantisation.{Set}
use Rattle.ffv1_record.specs.Configuration.{Configuration, at_depth, with_sets}
use Rattle.ffv1_record.specs.declared.config.Profile.{Profile}
use Rattle.ffv1_record.proofs.Checks.{divided, fits_grid, coder_wide}
use Rattle.ffv1_record.specs.declared.config.Profile.TheVariants as profile
use Rattle.ffv1_record.specs.Accepted.{edge, reduced, AreMultiples, AreReached, are_multiples, PassesAll, PassesEdges, checks}

-- quotients, with the divisor as a variable
zero_over : (n : ℕ) → 0 < n → 0 / n ≡ 0
zero_over n some = let below = div_below 0 n 1 some (omega (arith, some)) in omega (arith, below)

-- so many wholes more
pub more_over : (a q p : ℕ) → 0 < p → (a + q * p) / p ≡ a / p + q
more_over a q p some =
    let parts = div-add-mod' a p in
    let small : a % p < p = grind (arith, some) in
    let shape : a + q * p ≡ (a / p + q) * p + a % p = omega (arith, parts) in
    ap (λ n. n / p) shape ∙ div-mul-add (a / p + q) p (a % p) small

pub over_rises : (a b p : ℕ) → 0 < p → a ≤ b → a / p ≤ b / p
over_rises a b p some h =
    let parts = div-add-mod' a p in
    le-div (a / p) b p some (omega (arith, parts, h))

-- edges
pub edge_first : (size count : ℕ) → 0 < count → edge 0 size count ≡ 0
edge_first size count some = let none : 0 * size ≡ 0 = omega arith in ap (λ n. n / count) none ∙ zero_over count some

pub edge_last : (size count : ℕ) → 0 < count → edge count size count ≡ size
edge_last size count some =
    let shape : count * size ≡ size * count + 0 = omega arith in
    ap (λ n. n / count) shape ∙ div-mul-add size count 0 some

pub edge_rises : (k size count : ℕ) → 0 < count → count ≤ size → edge k size count < edge (suc k) size count
edge_rises k size count some fits =
    let one : edge k size count + 1 ≡ (k * size + 1 * count) / count = sym (more_over (k * size) 1 count some) in
    let next : k * size + 1 * count ≤ suc k * size = omega (arith, fits) in
    let rises = over_rises (k * size + 1 * count) (suc k * size) count some next in
    omega (arith, one, rises)

-- sizes over a factor
module _ (log2 : ℕ) where
  some_factor : 0 < 2 ^ log2
  some_factor = pow_pos log2

  pub reduced_none : reduced log2 0 ≡ 0
  unfolding reduced
  reduced_none =
      let some = some_factor in
      let below = div_below (0 + (2 ^ log2 - 1)) (2 ^ log2) 1 some (omega (arith, some)) in
      omega (arith, below)

  pub reduced_some : (n : ℕ) → 0 < n → 0 < reduced log2 n
  unfolding reduced
  reduced_some n h =
      let some = some_factor in
      let least = le-div 1 (n + (2 ^ log2 - 1)) (2 ^ log2) some (omega (arith, some, h)) in
      omega (arith, least)

  pub reduced_rises : (m n : ℕ) → m ≤ n → reduced log2 m ≤ reduced log2 n
  unfolding reduced
  reduced_rises m n h = over_rises (m + (2 ^ log2 - 1)) (n + (2 ^ log2 - 1)) (2 ^ log2) some_factor (omega (arith, h))

  -- of a multiple of the factor
  pub whole_reduced : (m : ℕ) → m % 2 ^ log2 ≡ 0 → m / 2 ^ log2 ≡ reduced log2 m
  unfolding reduced
  whole_reduced m multiple =
      let p = 2 ^ log2 in
      let some : 0 < 2 ^ log2 = some_factor in
      let parts = div-add-mod' m p in
      let low : m + (p - 1) ≡ m / p * p + (p - 1) = omega (arith, parts, multiple) in
      sym (ap (λ x. x / p) low ∙ div-mul-add (m / p) p (p - 1) (omega (arith, some)))

  -- after a multiple of the factor
  pub reduced_behind : (m n : ℕ) → m % 2 ^ log2 ≡ 0 → reduced log2 (m + n) ≡ reduced log2 m + reduced log2 n
  unfolding reduced
  reduced_behind m n multiple =
      let p = 2 ^ log2 in
      let some : 0 < 2 ^ log2 = some_factor in
      let parts = div-add-mod' m p in
      let whole : m ≡ m / p * p = omega (arith, parts, multiple) in
      let shape : (m + n) + (p - 1) ≡ (n + (p - 1)) + m / p * p = omega (arith, whole) in
      let low : m + (p - 1) ≡ m / p * p + (p - 1) = omega (arith, whole) in
      let first : (m + (p - 1)) / p ≡ m / p = ap (λ x. x / p) low ∙ div-mul-add (m / p) p (p - 1) (omega (arith, some)) in
      let both : ((m + n) + (p - 1)) / p ≡ (n + (p - 1)) / p + m / p = ap (λ x. x / p) shape ∙ more_over (n + (p - 1)) (m / p) p some in
      omega (arith, first, both)

pub zero_mod : (n : ℕ) → 0 < n → 0 % n ≡ 0
zero_mod n some =
    let none : 0 * n + 0 ≡ 0 = omega arith in
    subst (λ m. m % n ≡ 0) none (mod-mul-add 0 n 0 some)

-- ---- the three factors

pub reduced_by_1 : (n : ℕ) → n ≡ reduced 0 n
unfolding reduced
reduced_by_1 n = omega arith

pub reduced_by_2 : (n : ℕ) → (n + 1) / 2 ≡ reduced 1 n
unfolding reduced
reduced_by_2 n = omega arith

pub reduced_by_4 : (n : ℕ) → (n + 3) / 4 ≡ reduced 2 n
unfolding reduced
reduced_by_4 n = omega arith

-- ---- edges that are multiples

both_true : (a b : Bool) → (a && b) ≡ true → (a ≡ true) × (b ≡ true)
both_true true b h = (refl, h)
both_true false b h = absurd (search rules)

and_true : (a b : Bool) → a ≡ true → b ≡ true → (a && b) ≡ true
and_true a b e h = ap (λ x. x && b) e ∙ h

module _ (p : ℕ → Bool) where
  all_at : (a n : ℕ) → list_all p (range_with_len a n) ≡ true → (k : ℕ) → a ≤ k → k < a + n → p k ≡ true
  all_at a zero h k low high = absurd (omega (arith, low, high))
  all_at a (suc n) h k low high =
      let parts = both_true (p a) (list_all p (range_with_len (a + 1) n)) h in
      elim (cases_eq k a) [
        | inl is ↦ subst (λ x. p x ≡ true) (sym is) parts.0
        | inr other ↦
            let past : a + 1 ≤ k = let differ = other in omega (arith, low) in
            let below : k < (a + 1) + n = omega (arith, high) in
            all_at (a + 1) n parts.1 k past below
      ]

  all_from : (a n : ℕ) → ((k : ℕ) → a ≤ k → k < a + n → p k ≡ true) → list_all p (range_with_len a n) ≡ true
  all_from a zero h = refl
  all_from a (suc n) h =
      let here : p a ≡ true = h a (omega arith) (omega arith) in
      let rest = all_from (a + 1) n (λ k low high. h k (omega (arith, low)) (omega (arith, high))) in
      and_true (p a) (list_all p (range_with_len (a + 1) n)) here rest

module _ (size count log2 : ℕ) where
  abbrev even : ℕ → Bool
  even k = edge k size count % 2 ^ log2 == 0

  pub multiples_sound : are_multiples size count log2 ≡ true → AreMultiples size count log2
  unfolding are_multiples
  multiples_sound h = λ k some below. eqb-true _ _ (all_at even 1 (count - 1) h k (omega (arith, some)) (omega (arith, below)))

  pub multiples_complete : AreMultiples size count log2 → are_multiples size count log2 ≡ true
  unfolding are_multiples
  multiples_complete are = all_from even 1 (count - 1) (λ k low high. eq-eqb _ _ (are k (omega (arith, low)) (omega (arith, high))))

pub not_multiples : (size count log2 : ℕ) → (AreMultiples size count log2 → ⊥) → false ≡ are_multiples size count log2
not_multiples size count log2 none = decide (are_multiples size count log2) refl
  where
    decide : (b : Bool) → b ≡ are_multiples size count log2 → false ≡ are_multiples size count log2
    decide true is = absurd (none (multiples_sound size count log2 (sym is)))
    decide false is = is

-- the last part of a side whose edges are multiples ends where the plane does
last_multiple : (size k log2 : ℕ) → AreMultiples size (suc k) log2 → edge k size (suc k) % 2 ^ log2 ≡ 0
last_multiple size zero log2 are = rw (edge_first size (suc zero) (omega arith)) (zero_mod (2 ^ log2) (pow_pos log2))
last_multiple size (suc k) log2 are = are (suc k) (omega arith) (omega arith)

reached_at : (size k log2 : ℕ) → suc k ≤ size → AreMultiples size (suc k) log2 → AreReached size (suc k) log2
reached_at size k log2 fits are =
    let e = edge k size (suc k) in
    let whole = last_multiple size k log2 are in
    let rises = edge_rises k size (suc k) (omega arith) fits in
    let last = edge_last size (suc k) (omega arith) in
    let joined : edge k size (suc k) + (size - edge k size (suc k)) ≡ size = omega (arith, rises, last) in
    let both = reduced_behind log2 e (size - e) whole in
    let first : edge k size (suc k) / 2 ^ log2 ≡ reduced log2 (edge k size (suc k)) = whole_reduced log2 e whole in
    let here : suc k - 1 ≡ k = omega arith in
    subst (λ n. edge n size (suc k) / 2 ^ log2 + reduced log2 (size - edge n size (suc k)) ≡ reduced log2 size) (sym here)
    (ap (λ n. n + reduced log2 (size - e)) first ∙ sym both ∙ ap (reduced log2) joined)

pub multiples_reach : (size count log2 : ℕ) → 0 < count → count ≤ size → AreMultiples size count log2 → AreReached size count log2
multiples_reach size zero log2 some fits are = absurd (omega (arith, some))
multiples_reach size (suc k) log2 some fits are = reached_at size k log2 fits are

-- the checks of `Strict` are the narrower
pub wide_passes : (c : Configuration) → PassesAll profile.Strict checks c → PassesAll profile.Wide checks c
wide_passes c p =
    let grid = divided c p.1.1.1.1.1.0 in
    let fits = fits_grid c p.1.1.1.1.1.0 in (
      p.0,
      (
        p.1.0,
        (
          p.1.1.0,
          (
            p.1.1.1.0,
            (
              p.1.1.1.1.0,
              (
                p.1.1.1.1.1.0,
                (
                  (
                    multiples_reach c.width c.columns c.log2_h grid.some_columns fits.0 p.1.1.1.1.1.1.0.0,
                    multiples_reach c.height c.rows c.log2_v grid.some_rows fits.1 p.1.1.1.1.1.1.0.1,
                  ),
                  (coder_wide c p.1.1.1.1.1.1.1.0, tt),
                ),
              ),
            ),
          ),
        ),
      ),
    )

pub passes_wide : (p : Profile) (c : Configuration) → PassesAll p checks c → PassesAll profile.Wide checks c
passes_wide profile.Strict c passes = wide_passes c passes
passes_wide profile.Wide c passes = passes

-- edges do not depend on the depth
pub edges_at : (p : Profile) (c : Configuration) (depth : ℕ) → PassesEdges p c → PassesEdges p (at_depth c depth)
edges_at profile.Strict c depth edges = edges
edges_at profile.Wide c depth edges = edges

pub edges_of : (p : Profile) (c : Configuration) (depth : ℕ) → PassesEdges p (at_depth c depth) → PassesEdges p c
edges_of profile.Strict c depth edges = edges
edges_of profile.Wide c depth edges = edges

-- and whatever the sets are
pub edges_with : (p : Profile) (c : Configuration) (ss : List Set) → PassesEdges p c → PassesEdges p (with_sets c ss)
edges_with profile.Strict c ss edges = edges
edges_with profile.Wide c ss edges = edges

pub edges_without : (p : Profile) (c : Configuration) (ss : List Set) → PassesEdges p (with_sets c ss) → PassesEdges p c
edges_without profile.Strict c ss edges = edges
edges_without profile.Wide c ss edges = edges
