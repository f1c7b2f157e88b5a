-- Parts of a side have no sample in common exactly where each inner edge is a multiple of the factor.
use Rattle.std.proofs.Common.{◌≡◌, ℕ, zero, suc, ◌+◌, ◌-◌, ◌/◌, ◌%◌, ◌^◌, ◌<◌, ◌≤◌, ap, sym, ◌∙◌, arith, pow_pos, div-add-mod'}
use Rattle.std.proofs.Math.Nat.{mul-le-mul_left}
use Rattle.ffv1_record.specs.Accepted.{edge, AreMultiples}
use Rattle.ffv1_slice.specs.Grid.{Side, reduced, first_of, coded_of, begin_of, length_of, shared_of, factor_of}
use Rattle.ffv1_record.proofs.Edges.{edge_first, edge_rises, reduced_behind, whole_reduced, zero_mod}
use Rattle.ffv1_slice.proofs.Parts.{begins, multiple_at, clean_shares_none}

pub shares_none : (s : Side) (k : ℕ) → 0 < s.count → s.count ≤ s.size → AreMultiples s.size s.count s.log2 → k < s.count → shared_of s k ≡ 0
shares_none s zero some fits multiples inside = omega arith
shares_none s (suc k) some fits multiples inside =
    clean_shares_none s k some fits (multiple_at s k some multiples (omega (arith, inside))) (multiple_at s (suc k) some multiples inside)

pub clean_same : (s : Side) (k : ℕ) → 0 < s.count → s.count ≤ s.size → AreMultiples s.size s.count s.log2 → k < s.count → (begin_of s k ≡ first_of s k) × (length_of s k ≡ coded_of s k)
clean_same s k some fits multiples inside =
    let none : begin_of s k - first_of s k ≡ 0 = shares_none s k some fits multiples inside in
    let here = begins s k some fits in
    let first : begin_of s k ≡ first_of s k = omega (arith, none, here.0) in
    (first, omega (arith, first))

-- what is rounded up to what it is rounded down to is a multiple
exact : (e p : ℕ) → 0 < p → (e + (p - 1)) / p ≤ e / p → e % p ≡ 0
exact e p some same =
    let low = div-add-mod' e p in
    let high = div-add-mod' (e + (p - 1)) p in
    let rest : (e + (p - 1)) % p < p = grind (arith, some) in
    let more = mul-le-mul_left {m = (e + (p - 1)) / p} {n = e / p} p same in
    omega (arith, low, high, rest, more, some)

multiples_from : (s : Side) → 0 < s.count → s.count ≤ s.size → ((k : ℕ) → k < s.count → shared_of s k ≡ 0) → (k : ℕ) → k < s.count → edge k s.size s.count % 2 ^ s.log2 ≡ 0
unfolding reduced
multiples_from s some fits none zero inside = rw (edge_first s.size s.count some) (zero_mod (2 ^ s.log2) (pow_pos s.log2))
multiples_from s some fits none (suc k) inside =
    let whole = multiples_from s some fits none k (omega (arith, inside)) in
    let rises = edge_rises k s.size s.count some fits in
    let joined : edge k s.size s.count + (edge (suc k) s.size s.count - edge k s.size s.count) ≡ edge (suc k) s.size s.count = omega (arith, rises) in
    let both = reduced_behind s.log2 (edge k s.size s.count) (edge (suc k) s.size s.count - edge k s.size s.count) whole in
    let first : edge k s.size s.count / 2 ^ s.log2 ≡ reduced s.log2 (edge k s.size s.count) = whole_reduced s.log2 (edge k s.size s.count) whole in
    let here : (first_of s k + coded_of s k) - first_of s (suc k) ≡ 0 = none (suc k) inside in
    let end : first_of s k + coded_of s k ≡ reduced s.log2 (edge (suc k) s.size s.count) = ap (λ n. n + coded_of s k) first ∙ sym both ∙ ap (reduced s.log2) joined in
    exact (edge (suc k) s.size s.count) (2 ^ s.log2) (pow_pos s.log2) (omega (arith, here, end))

pub multiples_only : (s : Side) → 0 < s.count → s.count ≤ s.size → ((k : ℕ) → k < s.count → shared_of s k ≡ 0) → AreMultiples s.size s.count s.log2
multiples_only s some fits none = λ k any inside. multiples_from s some fits none k inside

-- by the factor of a plane the edges are multiples too
pub plane_multiples : (size count log2 p : ℕ) → AreMultiples size count log2 → AreMultiples size count (factor_of log2 p)
plane_multiples size count log2 zero h = λ k some inside. omega arith
plane_multiples size count log2 (suc zero) h = h
plane_multiples size count log2 (suc (suc zero)) h = h
plane_multiples size count log2 (suc (suc (suc p))) h = λ k some inside. omega arith
