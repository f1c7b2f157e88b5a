-- Pairs of bytes and the numbers that they are.
use Rattle.std.proofs.Common.{◌≡◌, refl, ap, ◌∙◌, ℕ, zero, suc, ◌<◌, ◌≤◌, ◌+◌, ◌*◌, ◌/◌, ◌%◌, List, [], ◌∷◌, ◌++◌, length, take, drop, slice_index, arith}
use Rattle.ffv1_samples.specs.Samples.{AreBelow, numbers_of_pairs, pairs_of_numbers}

pub numbers_back : (ns : List ℕ) → numbers_of_pairs (pairs_of_numbers ns) ≡ ns
numbers_back [] = refl
numbers_back (n ∷ ns) =
    let head : n % 256 + 256 * (n / 256) ≡ n = omega arith in
    let tail = numbers_back ns in
    ap (λ h. h ∷ numbers_of_pairs (pairs_of_numbers ns)) head ∙ ap (λ t. n ∷ t) tail

pub pairs_back : (count : ℕ) (bs : List ℕ) → AreBelow 256 bs → length bs ≡ 2 * count → pairs_of_numbers (numbers_of_pairs bs) ≡ bs
pairs_back count [] h l = refl
pairs_back zero (b ∷ bs) h l = absurd (omega (arith, l))
pairs_back (suc count) (b ∷ []) h l = absurd (omega (arith, l))
pairs_back (suc count) (b ∷ c ∷ bs) h l =
    let small : b < 256 = h 0 in
    let low : (b + 256 * c) % 256 ≡ b = omega (arith, small) in
    let high : (b + 256 * c) / 256 ≡ c = omega (arith, small) in
    let tail = pairs_back count bs (λ i. h (suc (suc i))) (omega (arith, l)) in
    rw (low, high, tail) refl

pub length_pairs : (ns : List ℕ) → length (pairs_of_numbers ns) ≡ 2 * length ns
length_pairs [] = refl
length_pairs (n ∷ ns) = let more = length_pairs ns in omega (arith, more)

pub length_numbers : (count : ℕ) (bs : List ℕ) → length bs ≡ 2 * count → length (numbers_of_pairs bs) ≡ count
length_numbers zero [] l = refl
length_numbers (suc count) [] l = absurd (omega (arith, l))
length_numbers zero (b ∷ bs) l = absurd (omega (arith, l))
length_numbers (suc count) (b ∷ []) l = absurd (omega (arith, l))
length_numbers (suc count) (b ∷ c ∷ bs) l = ap suc (length_numbers count bs (omega (arith, l)))

pub pairs_below : (ns : List ℕ) → AreBelow 65536 ns → (i : ℕ) → slice_index (pairs_of_numbers ns) i < 256
pairs_below [] h i = omega arith
pairs_below (n ∷ ns) h zero = omega arith
pairs_below (n ∷ ns) h (suc zero) = let small : n < 65536 = h 0 in omega (arith, small)
pairs_below (n ∷ ns) h (suc (suc i)) = pairs_below ns (λ j. h (suc j)) i

pub numbers_below : (bs : List ℕ) → AreBelow 256 bs → (i : ℕ) → slice_index (numbers_of_pairs bs) i < 65536
numbers_below [] h i = omega arith
numbers_below (b ∷ []) h i = omega arith
numbers_below (b ∷ c ∷ bs) h zero = let low : b < 256 = h 0 in let high : c < 256 = h 1 in omega (arith, low, high)
numbers_below (b ∷ c ∷ bs) h (suc i) = numbers_below bs (λ j. h (suc (suc j))) i

pub numbers_append : (count : ℕ) (xs ys : List ℕ) → length xs ≡ 2 * count → numbers_of_pairs (xs ++ ys) ≡ numbers_of_pairs xs ++ numbers_of_pairs ys
numbers_append count [] ys l = refl
numbers_append zero (x ∷ xs) ys l = absurd (omega (arith, l))
numbers_append (suc count) (x ∷ []) ys l = absurd (omega (arith, l))
numbers_append (suc count) (x ∷ y ∷ xs) ys l = ap (λ t. (x + 256 * y) ∷ t) (numbers_append count xs ys (omega (arith, l)))

doubled : (count : ℕ) → 2 * suc count ≡ suc (suc (2 * count))
doubled count = omega arith

pub numbers_take : (count : ℕ) (bs : List ℕ) → numbers_of_pairs (take (2 * count) bs) ≡ take count (numbers_of_pairs bs)
numbers_take zero bs = refl
numbers_take (suc count) [] = rw (doubled count) refl
numbers_take (suc count) (b ∷ []) = rw (doubled count) refl
numbers_take (suc count) (b ∷ c ∷ bs) = let more = numbers_take count bs in rw (doubled count) (ap (λ t. (b + 256 * c) ∷ t) more)

pub numbers_drop : (count : ℕ) (bs : List ℕ) → numbers_of_pairs (drop (2 * count) bs) ≡ drop count (numbers_of_pairs bs)
numbers_drop zero bs = refl
numbers_drop (suc count) [] = rw (doubled count) refl
numbers_drop (suc count) (b ∷ []) = rw (doubled count) refl
numbers_drop (suc count) (b ∷ c ∷ bs) = let more = numbers_drop count bs in rw (doubled count) more

pub number_at : (place : ℕ) (bs : List ℕ) → 2 * place + 1 < length bs → slice_index (numbers_of_pairs bs) place ≡ slice_index bs (2 * place) + 256 * slice_index bs (2 * place + 1)
number_at place [] l = absurd (omega (arith, l))
number_at place (b ∷ []) l = absurd (omega (arith, l))
number_at zero (b ∷ c ∷ bs) l = refl
number_at (suc place) (b ∷ c ∷ bs) l =
    let more = number_at place bs (omega (arith, l)) in
    let next : 2 * suc place + 1 ≡ suc (suc (2 * place + 1)) = omega arith in
    rw (next, doubled place) more

pub place_in : (place : ℕ) (bs : List ℕ) → 2 * place + 1 < length bs → place < length (numbers_of_pairs bs)
place_in place [] l = absurd (omega (arith, l))
place_in place (b ∷ []) l = absurd (omega (arith, l))
place_in zero (b ∷ c ∷ bs) l = omega arith
place_in (suc place) (b ∷ c ∷ bs) l = let more = place_in place bs (omega (arith, l)) in omega (arith, more)

pub all_taken : (place : ℕ) (bs : List ℕ) → length bs / 2 ≤ place → take place (numbers_of_pairs bs) ≡ numbers_of_pairs bs
all_taken zero [] l = refl
all_taken (suc place) [] l = refl
all_taken zero (b ∷ []) l = refl
all_taken (suc place) (b ∷ []) l = refl
all_taken zero (b ∷ c ∷ bs) l = absurd (omega (arith, l))
all_taken (suc place) (b ∷ c ∷ bs) l = ap (λ t. (b + 256 * c) ∷ t) (all_taken place bs (omega (arith, l)))
