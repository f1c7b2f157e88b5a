-- The levels of a table by its runs.
use Rattle.std.proofs.Common.{◌≡◌, refl, ap, ◌∙◌, sym, ℕ, zero, suc, ◌+◌, ◌-◌, ◌*◌, ◌<◌, ◌≤◌, true, ◌==◌, nat_lt, List, [], ◌∷◌, length, get_or, take, sum, arith, inl, inr, add-one, set, length-set, pos, ◌+ℤ◌, ◌-ℤ◌}
use Rattle.std.specs.List.{list_all}
use Rattle.std.proofs.lemmas.Bool.{and_parts, ltb-true, eqb-true, true_from_ne_false, both_ways, le-leb, lt-leb, lt-ltb, le-ltb, ne_eqb, cases_lt, cases_order}
use Rattle.std.proofs.lemmas.Int.{ints}
use Rattle.std.proofs.Math.Nat.{mul-le-mul_left}
use Rattle.std.proofs.lemmas.List.{take_all, get_or-set_same, get_or-set_other}
use Rattle.std.proofs.lemmas.List.Folds.{list_all_at}
use Rattle.std.proofs.lemmas.List.Sums.{sum_by-cons, sum_by_more}
use Rattle.ffv1_plane.specs.Quantisation.{is_filled, runs_below, entry_of}
use Rattle.ffv1_plane.specs.Raised.{IsRaised}

-- runs that fill a table, by their places
pub record Filled (runs : List ℕ) : Type 0 where
  pub positive : (k : ℕ) → k < length runs → 0 < get_or runs k 0
  pub total : sum runs ≡ 128
  pub few : length runs ≤ 128
  pub some : 0 < length runs

length-le-sum : (runs : List ℕ) → list_all (λ r. nat_lt 0 r) runs ≡ true → length runs ≤ sum runs
length-le-sum [] h = omega arith
length-le-sum (r ∷ rs) h =
    let parts = and_parts (nat_lt 0 r) (list_all (λ r. nat_lt 0 r) rs) h in
    let rest = length-le-sum rs parts.1 in
    let first = ltb-true 0 r parts.0 in
    let joined = sum_by-cons (λ (x : ℕ). x) r rs in
    omega arith

some_runs : (runs : List ℕ) → sum runs ≡ 128 → 0 < length runs
some_runs [] h = absurd (omega arith)
some_runs (r ∷ rs) h = omega arith

pub filled_from : (runs : List ℕ) → is_filled runs ≡ true → Filled runs
filled_from runs h =
    let parts = and_parts (list_all (λ r. nat_lt 0 r) runs) (sum runs == 128) h in
    let total = eqb-true (sum runs) 128 parts.1 in
    let short = length-le-sum runs parts.0 in
    record {
      positive = λ k below. ltb-true 0 (get_or runs k 0) (true_from_ne_false (nat_lt 0 (get_or runs k 0)) (λ no. both_ways _ (list_all_at (λ r. nat_lt 0 r) runs k 0 below no) parts.0));
      total = total;
      few = omega arith;
      some = some_runs runs total;
    }

-- the run that a position lies in
pub runs_below-at : (runs : List ℕ) (v k : ℕ) → v < length runs → sum (take v runs) ≤ k → k < sum (take (v + 1) runs) → runs_below runs k ≡ v
runs_below-at [] v k h a b = absurd (omega arith)
runs_below-at (r ∷ rs) zero k h a b =
    let joined = sum_by-cons (λ (x : ℕ). x) r (take 0 rs) in
    let after : k < r = omega arith in
    rw (lt-leb r k after) refl
runs_below-at (r ∷ rs) (suc v) k h a b =
    let low = sum_by-cons (λ (x : ℕ). x) r (take v rs) in
    let after = rw add-one at b in
    let high = sum_by-cons (λ (x : ℕ). x) r (take (suc v) rs) in
    let before : r ≤ k = omega arith in
    let rest = runs_below-at rs v (k - r) (omega arith) (omega arith) (rw add-one (omega arith)) in
    rw (le-leb r k before) (ap suc rest)

-- a position of the table lies in some run
pub runs_below-low : (runs : List ℕ) (k : ℕ) → k < sum runs → runs_below runs k < length runs
runs_below-low [] k h = absurd (omega arith)
runs_below-low (r ∷ rs) k h = elim (cases_lt k r) [
  | inl less ↦ rw (lt-leb r k less) (omega arith)
  | inr more ↦
      let joined = sum_by-cons (λ (x : ℕ). x) r rs in
      let rest = runs_below-low rs (k - r) (omega arith) in
      rw (le-leb r k more) (omega arith)
]

-- twice the greatest entry is below a table's room
pub half_room : (scale n : ℕ) → 0 < n → scale * (2 * n - 1) < 65536 → 2 * (scale * (n - 1)) < 65536
half_room scale zero some room = absurd (omega arith)
half_room scale (suc m) some room =
    let e : 2 * suc m - 1 ≡ 2 * m + 1 = omega arith in
    let f : suc m - 1 ≡ m = omega arith in
    let r = rw e at room in
    rw f (omega arith)

-- a position and the run that it lies in
pub record Stands (runs : List ℕ) (scale k run end level : ℕ) : Type 0 where
  pub inside : run < length runs
  pub before : sum (take run runs) ≤ k
  pub behind : k < end
  pub ends : end ≡ sum (take (run + 1) runs)
  pub levels : level ≡ scale * run

pub stayed : (runs : List ℕ) (scale k run end level : ℕ) → run < length runs → sum (take run runs) < k → k ≤ end → (k ≡ end → ⊥) → end ≡ sum (take (run + 1) runs) → level ≡ scale * run →
    Stands runs scale k run end level
stayed runs scale k run end level inside before behind other ends levels =
    record { inside = inside; before = omega arith; behind = elim (cases_lt k end) [ inl less ↦ less | inr more ↦ absurd (other (omega arith)) ]; ends = ends; levels = levels }

pub advanced : (runs : List ℕ) (scale k run end level : ℕ) → Filled runs → k < 128 → run < length runs → k ≡ end → end ≡ sum (take (run + 1) runs) → level ≡ scale * run →
    Stands runs scale k (run + 1) (end + get_or runs (run + 1) 0) (level + scale)
advanced runs scale k run end level filled low inside same ends levels =
    let total = filled.total in
    let more : run + 1 < length runs = elim (cases_lt (suc run) (length runs)) [ inl less ↦ omega arith | inr most ↦ let all = ap (λ (xs : List ℕ). sum xs) (take_all (run + 1) runs (omega arith)) in absurd (omega arith) ] in
    let some = filled.positive (run + 1) more in
    let step = sum_by_more (λ (x : ℕ). x) runs (run + 1) 0 more in
    record {
      inside = more;
      before = omega arith;
      behind = omega arith;
      ends = omega arith;
      levels = omega arith;
    }

-- no level is above the greatest entry
pub level-le : (runs : List ℕ) (scale k run end level : ℕ) → Stands runs scale k run end level → level ≤ scale * (length runs - 1)
level-le runs scale k run end level stands =
    let inside = stands.inside in
    let below = mul-le-mul_left {m = run} {n = length runs - 1} scale (omega arith) in
    rw stands.levels below

pub stands_below : (runs : List ℕ) (scale k run end level : ℕ) → Stands runs scale k run end level → scale * runs_below runs k ≡ level
stands_below runs scale k run end level stands =
    let inside = stands.inside in
    let behind = rw stands.ends at stands.behind in
    ap (λ n. scale * n) (runs_below-at runs run k inside stands.before behind) ∙ sym stands.levels

-- a table as far as its place k
pub record IsRaisedBelow (runs : List ℕ) (scale half : ℕ) (raised : List ℕ) (k : ℕ) : Type 0 where
  pub long : length raised ≡ 256
  pub up : (j : ℕ) → j < k → get_or raised j 0 ≡ half + scale * runs_below runs j
  pub down : (j : ℕ) → 0 < j → j < k → get_or raised (256 - j) 0 ≡ half - scale * runs_below runs j

pub raised_more : (runs : List ℕ) (scale half : ℕ) (raised : List ℕ) (k run end level : ℕ) → 0 < k → k < 128 → IsRaisedBelow runs scale half raised k → Stands runs scale k run end level →
    IsRaisedBelow runs scale half (set (set raised k (half + level)) (256 - k) (half - level)) (k + 1)
raised_more runs scale half raised k run end level some low so_far stands =
    let long = so_far.long in
    let here = stands_below runs scale k run end level stands in
    let once = length-set raised k (half + level) in
    record {
      long = length-set (set raised k (half + level)) (256 - k) (half - level) ∙ once ∙ long;
      up = λ j below. elim (cases_lt j k) [
        | inl less ↦
            rw (get_or-set_other (set raised k (half + level)) (256 - k) j (half - level) 0 (omega arith), get_or-set_other raised k j (half + level) 0 (omega arith)) (so_far.up j less)
        | inr more ↦
            let same : j ≡ k = omega arith in
            rw (same, get_or-set_other (set raised k (half + level)) (256 - k) k (half - level) 0 (omega arith), get_or-set_same raised k (half + level) 0 (omega arith), here) refl
      ];
      down = λ j first below. elim (cases_lt j k) [
        | inl less ↦
            rw (get_or-set_other (set raised k (half + level)) (256 - k) (256 - j) (half - level) 0 (omega arith), get_or-set_other raised k (256 - j) (half + level) 0 (omega arith)) (so_far.down j first less)
        | inr more ↦
            let same : j ≡ k = omega arith in
            rw (same, get_or-set_same (set raised k (half + level)) (256 - k) (half - level) 0 (omega arith), here) refl
      ];
    }

pub entry_lower : (runs : List ℕ) (scale k : ℕ) → k < 128 → entry_of runs scale k ≡ pos (scale * runs_below runs k)
entry_lower runs scale k h = rw (lt-ltb k 128 h) refl

pub entry_middle : (runs : List ℕ) (scale k : ℕ) → k ≡ 128 → entry_of runs scale k ≡ pos 0 -ℤ pos (scale * runs_below runs 127)
entry_middle runs scale k h = rw h refl

pub entry_upper : (runs : List ℕ) (scale k : ℕ) → 128 < k → entry_of runs scale k ≡ pos 0 -ℤ pos (scale * runs_below runs (256 - k))
entry_upper runs scale k h = rw (le-ltb k 128 (omega arith), ne_eqb k 128 (λ e. omega arith)) refl

pub raised_all : (runs : List ℕ) (scale : ℕ) (raised : List ℕ) (run end level : ℕ) → Filled runs → is_filled runs ≡ true → scale * (2 * length runs - 1) < 65536 →
    IsRaisedBelow runs scale (scale * (length runs - 1)) raised 128 → run < length runs → sum (take run runs) < 128 → 128 ≤ end → end ≡ sum (take (run + 1) runs) → level ≡ scale * run →
    IsRaised runs scale (set raised 128 (scale * (length runs - 1) - level))
raised_all runs scale raised run end level filled is room so_far inside before behind ends levels =
    let long = so_far.long in
    let total = filled.total in
    let stands : Stands runs scale 127 run end level = record { inside = inside; before = omega arith; behind = omega arith; ends = ends; levels = levels } in
    let here = stands_below runs scale 127 run end level stands in
    let most = level-le runs scale 127 run end level stands in
    let half = scale * (length runs - 1) in
    let bound : (j : ℕ) → j < 128 → scale * runs_below runs j ≤ half =
    λ j below. mul-le-mul_left {m = runs_below runs j} {n = length runs - 1} scale (let low = runs_below-low runs j (omega arith) in omega arith) in
    let value : (k : ℕ) → k < 256 → pos (get_or (set raised 128 (half - level)) k 0) ≡ entry_of runs scale k +ℤ pos half = λ k below. elim (cases_order k 128) [
      | inl same ↦ rw (entry_middle runs scale k same, here, same, get_or-set_same raised 128 (half - level) 0 (omega arith)) (omega (arith, ints))
      | inr other ↦ elim other [
        | inl less ↦ rw (entry_lower runs scale k less, get_or-set_other raised 128 k (half - level) 0 (omega arith), so_far.up k less) (omega (arith, ints))
        | inr more ↦
            let mirror : 256 - (256 - k) ≡ k = omega arith in
            let found = rw mirror at (so_far.down (256 - k) (omega arith) (omega arith)) in
            let fits = bound (256 - k) (omega arith) in
            rw (entry_upper runs scale k more, get_or-set_other raised 128 k (half - level) 0 (omega arith), found) (omega (arith, ints))
      ]
    ] in
    record {
      filled = is;
      room = room;
      each = value;
      most = λ k below. elim (cases_order k 128) [
        | inl same ↦ rw (same, get_or-set_same raised 128 (half - level) 0 (omega arith)) (omega arith)
        | inr other ↦ elim other [
          | inl less ↦ let fits = bound k less in rw (get_or-set_other raised 128 k (half - level) 0 (omega arith), so_far.up k less) (omega arith)
          | inr more ↦
              let mirror : 256 - (256 - k) ≡ k = omega arith in
              let found = rw mirror at (so_far.down (256 - k) (omega arith) (omega arith)) in
              rw (get_or-set_other raised 128 k (half - level) 0 (omega arith), found) (omega arith)
        ]
      ];
    }

pub entry_mirrored : (runs : List ℕ) (scale k : ℕ) → 0 < k → k < 128 → entry_of runs scale (256 - k) ≡ pos 0 -ℤ entry_of runs scale k
entry_mirrored runs scale k some low =
    let back : 256 - (256 - k) ≡ k = omega arith in
    rw (entry_upper runs scale (256 - k) (omega arith), entry_lower runs scale k low, back) refl
