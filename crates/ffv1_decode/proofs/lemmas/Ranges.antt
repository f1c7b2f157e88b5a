-- Numbers in a row, and what is made of each.
use Rattle.std.proofs.Common.{◌≡◌, ℕ, zero, suc, ◌+◌, ◌-◌, ◌<◌, List, [], ◌∷◌, ◌++◌, map, ap, sym, subst, ◌∙◌, arith, append_assoc, append-nil}
use Rattle.std.specs.List.{flat_map, range_with_len}
use Rattle.std.proofs.lemmas.List.{map-append}
use Rattle.std.proofs.lemmas.Grind.{flat_map-append}

pub range_more : (a n : ℕ) → range_with_len a (suc n) ≡ range_with_len a n ++ ((a + n) ∷ [])
range_more a zero = let same : a ≡ a + 0 = omega arith in let f : ℕ → List ℕ = λ k. k ∷ [] in ap f same
range_more a (suc n) =
    let rest = range_more (a + 1) n in
    let same : a + 1 + n ≡ a + suc n = omega arith in
    let f : ℕ → List ℕ = λ k. a ∷ (range_with_len (a + 1) n ++ (k ∷ [])) in
    let g : List ℕ → List ℕ = λ z. a ∷ z in
    ap g rest ∙ ap f same

module _ {A : Type 0} where
  pub mapped_more : (f : ℕ → A) (a n : ℕ) → map f (range_with_len a (suc n)) ≡ map f (range_with_len a n) ++ (f (a + n) ∷ [])
  mapped_more f a n = ap (map f) (range_more a n) ∙ map-append f (range_with_len a n) ((a + n) ∷ [])

  pub joined_more : (f : ℕ → List A) (a n : ℕ) → flat_map f (range_with_len a (suc n)) ≡ flat_map f (range_with_len a n) ++ f (a + n)
  joined_more f a n =
      ap (flat_map f) (range_more a n) ∙ flat_map-append f (range_with_len a n) ((a + n) ∷ []) ∙ ap (λ z. flat_map f (range_with_len a n) ++ z) (append-nil (f (a + n)))

  -- what stands after the first ones
  pub record Rest (f : ℕ → List A) (n many : ℕ) : Type 0 where
    pub rest : List A
    pub is : flat_map f (range_with_len 0 many) ≡ flat_map f (range_with_len 0 n) ++ (f n ++ rest)

  pub rest_by : (f : ℕ → List A) (n d : ℕ) → Rest f n (n + suc d)
  rest_by f n zero =
      let at : n + 1 ≡ suc n = omega arith in
      record {
        rest = [];
        is = ap (λ k. flat_map f (range_with_len 0 k)) at ∙ joined_more f 0 n ∙ ap (λ k. flat_map f (range_with_len 0 n) ++ f k) (let same : 0 + n ≡ n = omega arith in same)
            ∙ ap (λ z. flat_map f (range_with_len 0 n) ++ z) (sym (append-nil (f n)));
      }
  rest_by f n (suc d) =
      let before = rest_by f n d in
      let at : n + suc (suc d) ≡ suc (n + suc d) = omega arith in
      record {
        rest = before.rest ++ f (0 + (n + suc d));
        is = ap (λ k. flat_map f (range_with_len 0 k)) at ∙ joined_more f 0 (n + suc d) ∙ ap (λ z. z ++ f (0 + (n + suc d))) before.is
            ∙ append_assoc (flat_map f (range_with_len 0 n)) (f n ++ before.rest) (f (0 + (n + suc d)))
            ∙ ap (λ z. flat_map f (range_with_len 0 n) ++ z) (append_assoc (f n) before.rest (f (0 + (n + suc d))));
      }

  pub rest_of : (f : ℕ → List A) (n many : ℕ) → n < many → Rest f n many
  rest_of f n many less = let same : n + suc (many - suc n) ≡ many = omega (arith, less) in subst (λ k. Rest f n k) same (rest_by f n (many - suc n))

-- the same of a list that is not made of lists
module _ {A : Type 0} where
  pub record RestOf (f : ℕ → A) (a n many : ℕ) : Type 0 where
    pub rest : List A
    pub is : map f (range_with_len a many) ≡ map f (range_with_len a n) ++ (f (a + n) ∷ rest)

  pub mapped_rest_by : (f : ℕ → A) (a n d : ℕ) → RestOf f a n (n + suc d)
  mapped_rest_by f a n zero =
      let at : n + 1 ≡ suc n = omega arith in
      record { rest = []; is = ap (λ k. map f (range_with_len a k)) at ∙ mapped_more f a n }
  mapped_rest_by f a n (suc d) =
      let before = mapped_rest_by f a n d in
      let at : n + suc (suc d) ≡ suc (n + suc d) = omega arith in
      record {
        rest = before.rest ++ (f (a + (n + suc d)) ∷ []);
        is = ap (λ k. map f (range_with_len a k)) at ∙ mapped_more f a (n + suc d) ∙ ap (λ z. z ++ (f (a + (n + suc d)) ∷ [])) before.is
            ∙ append_assoc (map f (range_with_len a n)) (f (a + n) ∷ before.rest) (f (a + (n + suc d)) ∷ []);
      }

  pub mapped_rest : (f : ℕ → A) (a n many : ℕ) → n < many → RestOf f a n many
  mapped_rest f a n many less = let same : n + suc (many - suc n) ≡ many = omega (arith, less) in subst (λ k. RestOf f a n k) same (mapped_rest_by f a n (many - suc n))
