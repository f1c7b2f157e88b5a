-- Sums over lists and numbers.
use Rattle.std.proofs.Common.{◌≡◌, ◌≢◌, refl, ℕ, zero, suc, ◌+◌, ◌*◌, ◌<◌, ◌≤◌, List, [], ◌∷◌, ◌++◌, length, get_or, inl, inr, ap, sym, ◌∙◌, arith}
use Rattle.std.specs.List.{sum_by, range_with_len}
use Rattle.std.proofs.lemmas.Bool.{cases_eq}
use Rattle.std.proofs.lemmas.List.Sums.{sum_by-cons}
use Rattle.ffv1_slice.specs.Grid.{Side, begin_of, first_of, coded_of, shared_of, whole_of}
use Rattle.ffv1_frame.specs.Sides.{Tiles}

abbrev pub total : {X : Type 0} → (X → ℕ) → List X → ℕ
total f [] = 0
total f (x ∷ xs) = f x + total f xs

pub total_is : {X : Type 0} (f : X → ℕ) (xs : List X) → total f xs ≡ sum_by f xs
total_is f [] = refl
total_is f (x ∷ xs) = ap (λ n. f x + n) (total_is f xs) ∙ sym (sum_by-cons f x xs)

pub total_append : {X : Type 0} (f : X → ℕ) (xs ys : List X) → total f (xs ++ ys) ≡ total f xs + total f ys
total_append f [] ys = omega arith
total_append f (x ∷ xs) ys = let rest = total_append f xs ys in omega (arith, rest)

pub total_same : {X : Type 0} (f g : X → ℕ) (xs : List X) → ((x : X) → f x ≡ g x) → total f xs ≡ total g xs
total_same f g [] same = refl
total_same f g (x ∷ xs) same = let here = same x in let rest = total_same f g xs same in omega (arith, here, rest)

pub total_add : {X : Type 0} (f g : X → ℕ) (xs : List X) → total (λ x. f x + g x) xs ≡ total f xs + total g xs
total_add f g [] = refl
total_add f g (x ∷ xs) = let rest = total_add f g xs in omega (arith, rest)

pub total_scaled : {X : Type 0} (a : ℕ) (f : X → ℕ) (xs : List X) → total (λ x. a * f x) xs ≡ a * total f xs
total_scaled a f [] = omega arith
total_scaled a f (x ∷ xs) = let rest = total_scaled a f xs in omega (arith, rest)

pub total_none : {X : Type 0} (xs : List X) → total (λ x. 0) xs ≡ 0
total_none [] = refl
total_none (x ∷ xs) = let rest = total_none xs in omega (arith, rest)

pub total_each : (a from count : ℕ) → total (λ k. a) (range_with_len from count) ≡ a * count
total_each a from zero = omega arith
total_each a from (suc count) = let rest = total_each a (from + 1) count in omega (arith, rest)

pub total_swapped : {X Y : Type 0} (f : X → Y → ℕ) (xs : List X) (ys : List Y) → total (λ x. total (f x) ys) xs ≡ total (λ y. total (λ x. f x y) xs) ys
total_swapped f [] ys = sym (total_none ys)
total_swapped f (x ∷ xs) ys = ap (λ n. total (f x) ys + n) (total_swapped f xs ys) ∙ sym (total_add (f x) (λ y. total (λ x. f x y) xs) ys)

pub total_most : (f g : ℕ → ℕ) (from count : ℕ) → ((k : ℕ) → from ≤ k → k < from + count → f k ≤ g k) → total f (range_with_len from count) ≤ total g (range_with_len from count)
total_most f g from zero most = omega arith
total_most f g from (suc count) most =
    let here = most from (omega arith) (omega arith) in
    let rest = total_most f g (from + 1) count (λ k least less. most k (omega (arith, least)) (omega (arith, less))) in
    omega (arith, here, rest)

total_after : (f g : ℕ → ℕ) (p from count : ℕ) → p < from → ((j : ℕ) → j ≢ p → g j ≡ f j) → total g (range_with_len from count) ≡ total f (range_with_len from count)
total_after f g p from zero past others = refl
total_after f g p from (suc count) past others =
    let here = others from (let other : from ≢ p = omega (arith, past) in other) in
    let rest = total_after f g p (from + 1) count (omega (arith, past)) others in
    omega (arith, here, rest)

-- one of some numbers is greater
pub total_more : (f g : ℕ → ℕ) (p more from count : ℕ) → from ≤ p → p < from + count → ((j : ℕ) → j ≢ p → g j ≡ f j) → g p ≡ f p + more →
    total g (range_with_len from count) ≡ total f (range_with_len from count) + more
total_more f g p more from zero least less others here = absurd (omega (arith, least, less))
total_more f g p more from (suc count) least less others here = elim (cases_eq from p) [
  | inl same ↦
      let rest : total g (range_with_len (from + 1) count) ≡ total f (range_with_len (from + 1) count) = total_after f g p (from + 1) count (omega (arith, same)) others in
      let now : g from ≡ f from + more = ap g same ∙ here ∙ ap (λ n. f n + more) (sym same) in
      omega (arith, rest, now)
  | inr other ↦
      let rest = total_more f g p more (from + 1) count (omega (arith, least, other)) (omega (arith, less)) others here in
      let now = others from other in
      omega (arith, rest, now)
]

-- elements and what bounds them
pub total_below : {X : Type 0} (size : X → ℕ) (none : X) (f : ℕ → ℕ) (from : ℕ) (xs : List X) → ((k : ℕ) → k < length xs → size (get_or xs k none) ≤ f (from + k)) →
    total size xs ≤ total f (range_with_len from (length xs))
total_below size none f from [] most = omega arith
total_below size none f from (x ∷ xs) most =
    let first = most 0 (omega arith) in
    let same : f (from + 0) ≡ f from = ap f (let here : from + 0 ≡ from = omega arith in here) in
    let rest = total_below size none f (from + 1) xs (λ k less.
    let next = most (suc k) (omega (arith, less)) in
    let place : f (from + suc k) ≡ f (from + 1 + k) = ap f (let there : from + suc k ≡ from + 1 + k = omega arith in there) in
    omega (arith, next, place)) in
    omega (arith, first, same, rest)

-- the cells of a side are all of it, if none has a sample of another
parts_total : (s : Side) → Tiles s → ((k : ℕ) → k < s.count → shared_of s k ≡ 0) → (from count : ℕ) → from + count ≤ s.count → begin_of s from + total (coded_of s) (range_with_len from count) ≡ begin_of s (from + count)
parts_total s tiles none from zero fits =
    (let same : begin_of s from + 0 ≡ begin_of s from = omega arith in same) ∙ ap (begin_of s) (let here : from ≡ from + 0 = omega arith in here)
parts_total s tiles none from (suc count) fits =
    let rest = parts_total s tiles none (from + 1) count (omega (arith, fits)) in
    let inside : from < s.count = omega (arith, fits) in
    let here : begin_of s from + coded_of s from ≡ first_of s from + coded_of s from = omega (arith, tiles.begins from inside, none from inside) in
    let next : begin_of s from + coded_of s from ≡ begin_of s (from + 1) = here ∙ ap (begin_of s) (let there : suc from ≡ from + 1 = omega arith in there) in
    let end : begin_of s (from + 1 + count) ≡ begin_of s (from + suc count) = ap (begin_of s) (let there : from + 1 + count ≡ from + suc count = omega arith in there) in
    omega (arith, rest, next, end)

pub total_parts : (s : Side) → Tiles s → ((k : ℕ) → k < s.count → shared_of s k ≡ 0) → total (coded_of s) (range_with_len 0 s.count) ≡ whole_of s
total_parts s tiles none =
    let all = parts_total s tiles none 0 s.count (omega arith) in
    let end : begin_of s (0 + s.count) ≡ whole_of s = ap (begin_of s) (let same : 0 + s.count ≡ s.count = omega arith in same) ∙ tiles.last in
    omega (arith, all, tiles.first, end)
