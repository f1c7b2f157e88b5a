-- Pairs of bytes, and pairs the other way round.
use Rattle.std.proofs.Common.{◌≡◌, ℕ, zero, suc, ◌+◌, ◌*◌, ◌<◌, ◌≤◌, List, [], ◌∷◌, ◌++◌, length, take, drop, get_or, refl, ap, ◌∙◌, arith}
use Rattle.std.proofs.Math.ListN.{set}
use Rattle.std.proofs.lemmas.Grind.{common_steps, take-set_at}
use Rattle.std.proofs.Common.{append_assoc}
use Rattle.ffv1_y4m.specs.Ppm.{bytes_of_pairs, pairs_of, turned}

pub pairs_back : (ps : List (ℕ × ℕ)) → pairs_of (bytes_of_pairs ps) ≡ ps
pairs_back [] = refl
pairs_back (p ∷ ps) = ap (λ t. p ∷ t) (pairs_back ps)

pub turned_back : (ps : List (ℕ × ℕ)) → turned (turned ps) ≡ ps
turned_back [] = refl
turned_back (p ∷ ps) = ap (λ t. p ∷ t) (turned_back ps)

pub bytes_back : (n : ℕ) (xs : List ℕ) → length xs ≡ 2 * n → bytes_of_pairs (pairs_of xs) ≡ xs
bytes_back n [] long = refl
bytes_back n (x ∷ []) long = absurd (omega (arith, long))
bytes_back zero (x ∷ y ∷ xs) long = absurd (omega (arith, long))
bytes_back (suc n) (x ∷ y ∷ xs) long = ap (λ t. x ∷ y ∷ t) (bytes_back n xs (omega (arith, long)))

pub length-bytes : (ps : List (ℕ × ℕ)) → length (bytes_of_pairs ps) ≡ 2 * length ps
length-bytes [] = refl
length-bytes (p ∷ ps) = let more = length-bytes ps in omega (arith, more)

pub length-turned : (ps : List (ℕ × ℕ)) → length (turned ps) ≡ length ps
length-turned [] = refl
length-turned (p ∷ ps) = ap suc (length-turned ps)

pub length-pairs : (n : ℕ) (xs : List ℕ) → length xs ≡ 2 * n → length (pairs_of xs) ≡ n
length-pairs zero [] long = refl
length-pairs (suc n) [] long = absurd (omega (arith, long))
length-pairs n (x ∷ []) long = absurd (omega (arith, long))
length-pairs zero (x ∷ y ∷ xs) long = absurd (omega (arith, long))
length-pairs (suc n) (x ∷ y ∷ xs) long = ap suc (length-pairs n xs (omega (arith, long)))

pub pairs_append : (n : ℕ) (xs ys : List ℕ) → length xs ≡ 2 * n → pairs_of (xs ++ ys) ≡ pairs_of xs ++ pairs_of ys
pairs_append n [] ys long = refl
pairs_append n (x ∷ []) ys long = absurd (omega (arith, long))
pairs_append zero (x ∷ y ∷ xs) ys long = absurd (omega (arith, long))
pairs_append (suc n) (x ∷ y ∷ xs) ys long = ap (λ t. (x, y) ∷ t) (pairs_append n xs ys (omega (arith, long)))

pub bytes_append : (ps qs : List (ℕ × ℕ)) → bytes_of_pairs (ps ++ qs) ≡ bytes_of_pairs ps ++ bytes_of_pairs qs
bytes_append [] qs = refl
bytes_append (p ∷ ps) qs = ap (λ t. p.0 ∷ p.1 ∷ t) (bytes_append ps qs)

pub turned_append : (ps qs : List (ℕ × ℕ)) → turned (ps ++ qs) ≡ turned ps ++ turned qs
turned_append [] qs = refl
turned_append (p ∷ ps) qs = ap (λ t. (p.1, p.0) ∷ t) (turned_append ps qs)

doubled : (n : ℕ) → 2 * suc n ≡ suc (suc (2 * n))
doubled n = omega arith

pub pairs_take : (n : ℕ) (xs : List ℕ) → pairs_of (take (2 * n) xs) ≡ take n (pairs_of xs)
pairs_take zero xs = refl
pairs_take (suc n) [] = rw (doubled n) refl
pairs_take (suc n) (x ∷ []) = rw (doubled n) refl
pairs_take (suc n) (x ∷ y ∷ xs) = let more = pairs_take n xs in rw (doubled n) (ap (λ t. (x, y) ∷ t) more)

pub pairs_drop : (n : ℕ) (xs : List ℕ) → pairs_of (drop (2 * n) xs) ≡ drop n (pairs_of xs)
pairs_drop zero xs = refl
pairs_drop (suc n) [] = rw (doubled n) refl
pairs_drop (suc n) (x ∷ []) = rw (doubled n) refl
pairs_drop (suc n) (x ∷ y ∷ xs) = let more = pairs_drop n xs in rw (doubled n) more

-- a pair by its place
pub pair_at : (i : ℕ) (xs : List ℕ) → 2 * i + 1 < length xs → get_or (pairs_of xs) i (0, 0) ≡ (get_or xs (2 * i) 0, get_or xs (2 * i + 1) 0)
pair_at i [] inside = absurd (omega (arith, inside))
pair_at i (x ∷ []) inside = absurd (omega (arith, inside))
pair_at zero (x ∷ y ∷ xs) inside = refl
pair_at (suc i) (x ∷ y ∷ xs) inside =
    let more = pair_at i xs (omega (arith, inside)) in
    let next : 2 * suc i + 1 ≡ suc (suc (2 * i + 1)) = omega arith in
    rw (next, doubled i) more

pub turned_at : (i : ℕ) (ps : List (ℕ × ℕ)) → i < length ps → get_or (turned ps) i (0, 0) ≡ ((get_or ps i (0, 0)).1, (get_or ps i (0, 0)).0)
turned_at i [] inside = absurd (omega (arith, inside))
turned_at zero (p ∷ ps) inside = refl
turned_at (suc i) (p ∷ ps) inside = turned_at i ps (omega (arith, inside))

-- two stores
pub two_stores : (bytes : List ℕ) (at a b : ℕ) → at + 2 ≤ length bytes → take (at + 2) (set (set bytes at a) (at + 1) b) ≡ take at bytes ++ (a ∷ b ∷ [])
two_stores bytes at a b inside =
    let one : take (at + 1) (set bytes at a) ≡ take at bytes ++ a ∷ [] = take-set_at bytes at (at + 1) a refl (omega (arith, inside)) in
    let two : take (at + 2) (set (set bytes at a) (at + 1) b) ≡ take (at + 1) (set bytes at a) ++ b ∷ [] = take-set_at (set bytes at a) (at + 1) (at + 2) b (omega arith) (grind (arith, common_steps, inside)) in
    two ∙ (rw one (append_assoc (take at bytes) (a ∷ []) (b ∷ [])))
