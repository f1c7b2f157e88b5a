-- Lanes as the values of functions at some places.
use Rattle.std.proofs.Common.{sym, slice_index, length, ◌<◌, ap, ◌≤◌, ◌≡◌, refl, ◌∙◌, ℕ, ◌+◌, ◌-◌, ◌%◌, ◌^◌, List, [], ◌∷◌, map, Bool, bit_and, arith, min, max, nat_lt, inl, inr}
use Rattle.std.proofs.lemmas.Bool.{cases_lt, lt-ltb, le-ltb}
use Rattle.std.specs.Prelude.{replicate, cond}
use Rattle.std.proofs.lemmas.Nat.{and_le_r}
use Rattle.std.proofs.lemmas.Simd.{zip2_of_maps, tops_compared, Each1-all, Each1-zip2, Each2-splat}
use Rattle.std.proofs.lemmas.List.{ext_get_or}
use Rattle.std.proofs.lemmas.List.FromFn.{length-map-range_with_len, get_or-map-range_with_len}
use Rattle.std.proofs.lemmas.Simd.{length-chunk, get_or-chunk, get_or-put_chunk_at}
use Rattle.std.specs.List.{range_with_len}
use Rattle.std.specs.Simd.Lanes.{chunk, put_chunk}
use lib.Lanes.{zip2, sel_l, top, Each1}
use mir.Syntax.{Width, w8, w16}
use mir.Val.{bits, hbits, Fits}

-- difference of two lanes of 16 bits
abbrev pub minus : ℕ → ℕ → ℕ
minus x y = (x + (65536 - y)) % 65536

same_values : (f g : ℕ → ℕ) (places : List ℕ) → ((x : ℕ) → f x ≡ g x) → map f places ≡ map g places
same_values f g [] same = refl
same_values f g (x ∷ xs) same = rw (same x, same_values f g xs same) refl

-- by one function or by one of the same values
pub by_values : (places lanes : List ℕ) (f g : ℕ → ℕ) → lanes ≡ map f places → ((x : ℕ) → f x ≡ g x) → lanes ≡ map g places
by_values places lanes f g are same = are ∙ same_values f g places same

chosen_of_maps : (m : ℕ → Bool) (f g : ℕ → ℕ) (places : List ℕ) → sel_l (map m places) (map f places) (map g places) ≡ map (λ x. cond (m x) (f x) (g x)) places
chosen_of_maps m f g [] = refl
chosen_of_maps m f g (x ∷ xs) = rw (chosen_of_maps m f g xs) refl

-- lanes that are chosen by a comparison of two others
pub chosen : (w : Width) (t : ℕ → ℕ → Bool) (places xs ys these those : List ℕ) (f g p q : ℕ → ℕ) → xs ≡ map f places → ys ≡ map g places → these ≡ map p places → those ≡ map q places →
    sel_l (map (top (hbits w)) (zip2 (λ a b. cond (t a b) (2 ^ bits w - 1) 0) xs ys)) these those ≡ map (λ x. cond (t (f x) (g x)) (p x) (q x)) places
chosen w t places xs ys these those f g p q a b c d =
    let compared = tops_compared w t xs ys ∙ zip2_of_maps t f g places a b in
    rw (compared, c, d) (chosen_of_maps (λ x. t (f x) (g x)) p q places)

-- lanes of which the low eight bits were taken are bytes
pub low_fits : (xs : List ℕ) → Each1 (Fits w8) (zip2 bit_and xs (replicate 16 255))
low_fits xs = Each1-zip2 bit_and (Fits w8) xs (replicate 16 255) (Each2-splat (λ x y. Fits w8 (bit_and x y)) xs 16 255 (Each1-all (λ x. Fits w8 (bit_and x 255)) (λ x. let few = and_le_r x 255 in record { fits = omega (arith, few) }) xs))

least_is : (x y : ℕ) → cond (nat_lt x y) x y ≡ min x y
least_is x y = elim (cases_lt x y) [
  | inl less ↦ rw (lt-ltb x y less) (omega arith)
  | inr more ↦ rw (le-ltb x y more) (omega arith)
]

most_is : (x y : ℕ) → cond (nat_lt x y) y x ≡ max x y
most_is x y = elim (cases_lt x y) [
  | inl less ↦ rw (lt-ltb x y less) (omega arith)
  | inr more ↦ rw (le-ltb x y more) (omega arith)
]

-- the least, and the greatest, of each two lanes of 16 bits
pub lane_min : (places xs ys : List ℕ) (f g : ℕ → ℕ) → xs ≡ map f places → ys ≡ map g places →
    sel_l (map (top (hbits w16)) (zip2 (λ a b. cond (nat_lt a b) (2 ^ bits w16 - 1) 0) xs ys)) xs ys ≡ map (λ x. min (f x) (g x)) places
lane_min places xs ys f g a b = by_values places _ _ (λ x. min (f x) (g x)) (chosen w16 nat_lt places xs ys xs ys f g f g a b a b) (λ x. least_is (f x) (g x))

pub lane_max : (places xs ys : List ℕ) (f g : ℕ → ℕ) → xs ≡ map f places → ys ≡ map g places →
    sel_l (map (top (hbits w16)) (zip2 (λ a b. cond (nat_lt a b) (2 ^ bits w16 - 1) 0) xs ys)) ys xs ≡ map (λ x. max (f x) (g x)) places
lane_max places xs ys f g a b = by_values places _ _ (λ x. max (f x) (g x)) (chosen w16 nat_lt places xs ys ys xs f g g f a b b a) (λ x. most_is (f x) (g x))

-- lanes that are loaded from a list
pub loaded : (start at n : ℕ) (xs : List ℕ) (f : ℕ → ℕ) → at + n ≤ length xs → ((j : ℕ) → j < n → slice_index xs (at + j) ≡ f (start + j)) → chunk at n xs ≡ map f (range_with_len start n)
loaded start at n xs f room each =
    let long = length-chunk at n xs room in
    ext_get_or 0 (chunk at n xs) (map f (range_with_len start n)) (long ∙ sym (length-map-range_with_len f start n))
    (λ j below. get_or-chunk at n xs j 0 (omega (arith, below, long)) ∙ each j (omega (arith, below, long)) ∙ sym (get_or-map-range_with_len f start n j (start + j) 0 (omega (arith, below, long)) refl))

-- what stands in a list that lanes were stored into
pub stored : (start at n : ℕ) (xs lanes : List ℕ) (f : ℕ → ℕ) (i : ℕ) → lanes ≡ map f (range_with_len start n) → at + n ≤ length xs → at ≤ i → i < at + n → slice_index (put_chunk at xs lanes) i ≡ f (start + (i - at))
stored start at n xs lanes f i are room least below =
    let long = ap length are ∙ length-map-range_with_len f start n in
    let place : at + (i - at) ≡ i = omega arith in
    ap (λ p. slice_index (put_chunk at xs lanes) p) (sym place)
    ∙ get_or-put_chunk_at at xs lanes (i - at) 0 (omega (arith, long)) (omega (arith, long))
    ∙ ap (λ l. slice_index l (i - at)) are
    ∙ get_or-map-range_with_len f start n (i - at) (start + (i - at)) 0 (omega arith) refl
