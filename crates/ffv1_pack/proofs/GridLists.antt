-- What is left of a search through a list.
use Rattle.std.proofs.Common.{◌≡◌, ◌≤◌, refl, ℕ, zero, suc, ◌+◌, ◌&&◌, Bool, true, false, if◌then◌else◌, cond, Option, Some, None, List, [], ◌∷◌, map, ap, sym, subst, arith, ◌∙◌}
use Rattle.std.specs.Prelude.{find, flat_map}
use Rattle.std.specs.Option.{option_or}
use Rattle.std.specs.List.{All, filter, list_all, range_with_len}
use Rattle.std.proofs.lemmas.List.Concat.{flat_map-cons}
use Rattle.std.proofs.lemmas.List.Folds.{find-append}
use Rattle.std.proofs.lemmas.List.Elements.{All-append, All-head, All-same, All-tail}

-- ---- of numbers that all pass

module _ (p : ℕ → Bool) (k n m : ℕ) (e : n ≡ suc m) where
  pub all_more : p k ≡ true → list_all p (range_with_len k n) ≡ list_all p (range_with_len (k + 1) m)
  all_more is = ap (λ x. list_all p (range_with_len k x)) e ∙ ap (λ b. b && list_all p (range_with_len (k + 1) m)) is

-- ---- of the first that passes two tests

module _ {X : Type 0} (p q : X → Bool) where
  skips : (x : X) (xs : List X) → (q x && p x) ≡ false → find p (filter q (x ∷ xs)) ≡ find p (filter q xs)
  skips x xs e = go (q x) e
    where
      go : (a : Bool) → (a && p x) ≡ false → find p (if a then x ∷ filter q xs else filter q xs) ≡ find p (filter q xs)
      go true h = ap (λ b. cond b (Some x) (find p (filter q xs))) h
      go false h = refl

  takes : (x : X) (xs : List X) → q x ≡ true → p x ≡ true → find p (filter q (x ∷ xs)) ≡ Some x
  takes x xs is so = ap (λ a. find p (if a then x ∷ filter q xs else filter q xs)) is ∙ ap (λ b. cond b (Some x) (find p (filter q xs))) so

  module _ (f : ℕ → X) where
    abbrev pub left_of : ℕ → ℕ → Option X
    left_of k n = find p (filter q (map f (range_with_len k n)))

    pub left_more : (k n m : ℕ) → n ≡ suc m → (q (f k) && p (f k)) ≡ false → left_of k n ≡ left_of (k + 1) m
    left_more k n m e h = ap (left_of k) e ∙ skips (f k) (map f (range_with_len (k + 1) m)) h

-- ---- of the first in a list of lists

module _ {X : Type 0} (p : X → Bool) (f : ℕ → List X) where
  abbrev pub left_in : ℕ → ℕ → Option X
  left_in k n = find p (flat_map f (range_with_len k n))

  begins : (k n m : ℕ) → n ≡ suc m → left_in k n ≡ option_or (find p (f k)) (left_in (k + 1) m)
  begins k n m e =
      ap (left_in k) e ∙ ap (find p) (flat_map-cons f k (range_with_len (k + 1) m)) ∙ find-append p (f k) (flat_map f (range_with_len (k + 1) m))

  pub lists_more : (k n m : ℕ) → n ≡ suc m → find p (f k) ≡ None → left_in k n ≡ left_in (k + 1) m
  lists_more k n m e none = begins k n m e ∙ ap (λ o. option_or o (left_in (k + 1) m)) none

  pub lists_found : (k n m : ℕ) (x : X) → n ≡ suc m → find p (f k) ≡ Some x → left_in k n ≡ Some x
  lists_found k n m x e some = begins k n m e ∙ ap (λ o. option_or o (left_in (k + 1) m)) some

-- ---- of what a search finds

some_is : {X : Type 0} (x y : X) → Some x ≡ Some y → x ≡ y
some_is x y e = cc

module _ {X : Type 0} (p : X → Bool) (P : X → Type 0) where
  -- it passes the test, and what holds of all holds of it
  pub found_holds : (xs : List X) (x : X) → All P xs → find p xs ≡ Some x → (p x ≡ true) × P x
  found_holds [] x all h = absurd (cc)
  found_holds (y ∷ ys) x all h = go (λ e. found_holds ys x (All-tail P y ys all) e) (p y) refl h
    where
      go : (find p ys ≡ Some x → (p x ≡ true) × P x) → (b : Bool) → p y ≡ b → cond b (Some y) (find p ys) ≡ Some x → (p x ≡ true) × P x
      go later true passes h = (subst (λ z. p z ≡ true) (some_is y x h) passes, subst P (some_is y x h) (All-head P y ys all))
      go later false fails h = later h

-- what holds of each list holds of them joined
pub all_joined : {X : Type 0} (P : X → Type 0) (f : ℕ → List X) (k n : ℕ) → ((i : ℕ) → k ≤ i → All P (f i)) → All P (flat_map f (range_with_len k n))
all_joined P f k zero each = λ i d lt. absurd (omega (arith, lt))
all_joined P f k (suc n) each =
    let rest = all_joined P f (k + 1) n (λ i least. each i (omega (arith, least))) in
    All-same P _ _ (flat_map-cons f k (range_with_len (k + 1) n)) (All-append P (f k) _ (each k (omega arith)) rest)
