-- Lists of lists, one after the other.
use Rattle.std.proofs.Common.{◌≡◌, ◌≢◌, refl, ℕ, zero, suc, ◌+◌, ◌-◌, ◌<◌, ◌≤◌, List, [], ◌∷◌, ◌++◌, map, inl, inr, ap, ◌∙◌, arith, append-nil}
use Rattle.std.specs.List.{flat_map, range_with_len}
use Rattle.std.proofs.lemmas.Bool.{cases_eq}
use Rattle.std.proofs.lemmas.Grind.{flat_map-append}
use Rattle.std.proofs.lemmas.List.{map-append}

pub flat_flat : {A B C : Type 0} (g : B → List C) (f : A → List B) (xs : List A) → flat_map g (flat_map f xs) ≡ flat_map (λ x. flat_map g (f x)) xs
flat_flat g f [] = refl
flat_flat g f (x ∷ xs) = flat_map-append g (f x) (flat_map f xs) ∙ ap (λ z. flat_map g (f x) ++ z) (flat_flat g f xs)

pub map_flat : {A B C : Type 0} (g : B → C) (f : A → List B) (xs : List A) → map g (flat_map f xs) ≡ flat_map (λ x. map g (f x)) xs
map_flat g f [] = refl
map_flat g f (x ∷ xs) = map-append g (f x) (flat_map f xs) ∙ ap (λ z. map g (f x) ++ z) (map_flat g f xs)

pub flat_same : {A B : Type 0} (f g : A → List B) (xs : List A) → ((x : A) → f x ≡ g x) → flat_map f xs ≡ flat_map g xs
flat_same f g [] same = refl
flat_same f g (x ∷ xs) same = ap (λ z. z ++ flat_map f xs) (same x) ∙ ap (λ z. g x ++ z) (flat_same f g xs same)

pub flat_range_same : {B : Type 0} (f g : ℕ → List B) (from count : ℕ) → ((k : ℕ) → from ≤ k → k < from + count → f k ≡ g k) →
    flat_map f (range_with_len from count) ≡ flat_map g (range_with_len from count)
flat_range_same f g from zero same = refl
flat_range_same f g from (suc count) same =
    ap (λ z. z ++ flat_map f (range_with_len (from + 1) count)) (same from (omega arith) (omega arith))
    ∙ ap (λ z. g from ++ z) (flat_range_same f g (from + 1) count (λ k least most. same k (omega (arith, least)) (omega (arith, most))))

pub flat_none : {B : Type 0} (f : ℕ → List B) (from count : ℕ) → ((k : ℕ) → from ≤ k → k < from + count → f k ≡ []) → flat_map f (range_with_len from count) ≡ []
flat_none f from zero none = refl
flat_none f from (suc count) none =
    ap (λ z. z ++ flat_map f (range_with_len (from + 1) count)) (none from (omega arith) (omega arith))
    ∙ flat_none f (from + 1) count (λ k least most. none k (omega (arith, least)) (omega (arith, most)))

-- of lists that are all empty but one, that one is left
pub pick_one : {B : Type 0} (f : ℕ → List B) (k from count : ℕ) → from ≤ k → k < from + count → ((j : ℕ) → j ≢ k → f j ≡ []) → flat_map f (range_with_len from count) ≡ f k
pick_one f k from zero least most none = absurd (omega (arith, least, most))
pick_one f k from (suc count) least most none = elim (cases_eq from k) [
  | inl same ↦
      ap (λ z. f from ++ z) (flat_none f (from + 1) count (λ j low high. none j (let other : j ≢ k = omega (arith, low, same) in other)))
      ∙ append-nil (f from) ∙ ap f same
  | inr other ↦
      ap (λ z. z ++ flat_map f (range_with_len (from + 1) count)) (none from other)
      ∙ pick_one f k (from + 1) count (omega (arith, least, other)) (omega (arith, most)) none
]

-- numbers of which one is in the middle
pub range_parts : (from count k : ℕ) → k < count → range_with_len from count ≡ range_with_len from k ++ ((from + k) ∷ range_with_len (from + k + 1) (count - suc k))
range_parts from zero k h = absurd (omega (arith, h))
range_parts from (suc count) zero h =
    let here : from ≡ from + 0 = omega arith in
    ap (λ n. from ∷ range_with_len (from + 1) n) (let same : count ≡ suc count - suc 0 = omega arith in same)
    ∙ ap (λ n. n ∷ range_with_len (n + 1) (suc count - suc 0)) here
range_parts from (suc count) (suc k) h =
    let there : from + 1 + k ≡ from + suc k = omega arith in
    ap (λ z. from ∷ z) (range_parts (from + 1) count k (omega (arith, h))
    ∙ ap (λ n. range_with_len (from + 1) k ++ (n ∷ range_with_len (n + 1) (count - suc k))) there
    ∙ ap (λ n. range_with_len (from + 1) k ++ ((from + suc k) ∷ range_with_len (from + suc k + 1) n)) (let rest : count - suc k ≡ suc count - suc (suc k) = omega arith in rest))
