-- What stands as red, green and blue, one of each at a time, and each third of it.
use Rattle.std.proofs.Common.{◌≡◌, ℕ, ◌+◌, ◌-◌, ◌*◌, ◌/◌, ◌<◌, ◌≤◌, zero, suc, List, [], ◌∷◌, ◌++◌, length, take, drop, get_or, refl, ap, ◌∙◌, sym, append_assoc, arith}
use Rattle.std.proofs.Math.ListN.{set}
use Rattle.std.proofs.lemmas.Grind.{common_steps, take-set_at}
use Rattle.std.proofs.lemmas.List.{ext_get_or}
use Rattle.ffv1_y4m.specs.Ppm.{each_third, in_turn}

pub get_or-each_third : {A : Type 0} (d : A) (xs : List A) (k i : ℕ) → get_or (each_third k xs) i d ≡ get_or xs (3 * i + k) d
get_or-each_third d [] k i = refl
get_or-each_third d (x ∷ xs) zero zero = refl
get_or-each_third d (x ∷ xs) zero (suc i) =
    let place : 3 * suc i + 0 ≡ suc (3 * i + 2) = omega arith in
    rw place (get_or-each_third d xs 2 i)
get_or-each_third d (x ∷ xs) (suc k) i =
    let place : 3 * i + suc k ≡ suc (3 * i + k) = omega arith in
    rw place (get_or-each_third d xs k i)

pub length-each_third : {A : Type 0} (xs : List A) (k : ℕ) → k ≤ 2 → length (each_third k xs) ≡ (length xs + (2 - k)) / 3
length-each_third [] k h = omega (arith, h)
length-each_third (x ∷ xs) zero h =
    let more = length-each_third xs 2 (omega arith) in
    omega (arith, more)
length-each_third (x ∷ xs) (suc k) h =
    let more = length-each_third xs k (omega (arith, h)) in
    omega (arith, more, h)

-- a plane of which each place has its sample
pub is_third : (xs plane : List ℕ) (k : ℕ) → k ≤ 2 → length xs ≡ 3 * length plane → ((i : ℕ) → i < length plane → get_or plane i 0 ≡ get_or xs (3 * i + k) 0) → plane ≡ each_third k xs
is_third xs plane k few long each =
    let size : length (each_third k xs) ≡ (length xs + (2 - k)) / 3 = length-each_third xs k few in
    let same : length plane ≡ length (each_third k xs) = omega (arith, size, long, few) in
    ext_get_or 0 plane (each_third k xs) same (λ i h. each i h ∙ sym (get_or-each_third 0 xs k i))

pub each_third-append : {A : Type 0} (n k : ℕ) (xs ys : List A) → length xs ≡ 3 * n → k ≤ 2 → each_third k (xs ++ ys) ≡ each_third k xs ++ each_third k ys
each_third-append zero k [] ys long few = refl
each_third-append zero k (x ∷ xs) ys long few = absurd (omega (arith, long))
each_third-append (suc n) k [] ys long few = absurd (omega (arith, long))
each_third-append (suc n) k (x ∷ []) ys long few = absurd (omega (arith, long))
each_third-append (suc n) k (x ∷ y ∷ []) ys long few = absurd (omega (arith, long))
each_third-append (suc n) zero (x ∷ y ∷ z ∷ xs) ys long few = ap (λ l. x ∷ l) (each_third-append n zero xs ys (omega (arith, long)) few)
each_third-append (suc n) (suc zero) (x ∷ y ∷ z ∷ xs) ys long few = ap (λ l. y ∷ l) (each_third-append n (suc zero) xs ys (omega (arith, long)) few)
each_third-append (suc n) (suc (suc zero)) (x ∷ y ∷ z ∷ xs) ys long few = ap (λ l. z ∷ l) (each_third-append n (suc (suc zero)) xs ys (omega (arith, long)) few)
each_third-append (suc n) (suc (suc (suc k))) (x ∷ y ∷ z ∷ xs) ys long few = absurd (omega (arith, few))

-- one place more
pub in_turn_more : {A : Type 0} (rs gs bs : List A) (r g b : A) → length gs ≡ length rs → length bs ≡ length rs → in_turn (rs ++ r ∷ []) (gs ++ g ∷ []) (bs ++ b ∷ []) ≡ in_turn rs gs bs ++ (r ∷ g ∷ b ∷ [])
in_turn_more [] [] [] r g b p q = refl
in_turn_more [] [] (z ∷ bs) r g b p q = absurd (omega (arith, q))
in_turn_more [] (y ∷ gs) bs r g b p q = absurd (omega (arith, p))
in_turn_more (x ∷ rs) [] bs r g b p q = absurd (omega (arith, p))
in_turn_more (x ∷ rs) (y ∷ gs) [] r g b p q = absurd (omega (arith, q))
in_turn_more (x ∷ rs) (y ∷ gs) (z ∷ bs) r g b p q = ap (λ l. x ∷ y ∷ z ∷ l) (in_turn_more rs gs bs r g b (omega (arith, p)) (omega (arith, q)))

-- three stores
pub three_stores : (text : List ℕ) (i r g b : ℕ) → 3 * i + 2 < length text → take (3 * (i + 1)) (set (set (set text (3 * i) r) (3 * i + 1) g) (3 * i + 2) b) ≡ take (3 * i) text ++ (r ∷ g ∷ b ∷ [])
three_stores text i r g b inside =
    let one : take (3 * i + 1) (set text (3 * i) r) ≡ take (3 * i) text ++ r ∷ [] = take-set_at text (3 * i) (3 * i + 1) r refl (omega (arith, inside)) in
    let two : take (3 * i + 2) (set (set text (3 * i) r) (3 * i + 1) g) ≡ take (3 * i + 1) (set text (3 * i) r) ++ g ∷ [] = take-set_at (set text (3 * i) r) (3 * i + 1) (3 * i + 2) g (omega arith) (grind (arith, common_steps, inside)) in
    let three : take (3 * (i + 1)) (set (set (set text (3 * i) r) (3 * i + 1) g) (3 * i + 2) b) ≡ take (3 * i + 2) (set (set text (3 * i) r) (3 * i + 1) g) ++ b ∷ [] = take-set_at (set (set text (3 * i) r) (3 * i + 1) g) (3 * i + 2) (3 * (i + 1)) b (omega arith) (grind (arith, common_steps, inside)) in
    three ∙ (rw (two, one) (append_assoc (take (3 * i) text ++ r ∷ []) (g ∷ []) (b ∷ []) ∙ append_assoc (take (3 * i) text) (r ∷ []) (g ∷ b ∷ [])))

pub length-in_turn : {A : Type 0} (rs gs bs : List A) → length gs ≡ length rs → length bs ≡ length rs → length (in_turn rs gs bs) ≡ 3 * length rs
length-in_turn [] gs bs p q = refl
length-in_turn (r ∷ rs) [] bs p q = absurd (omega (arith, p))
length-in_turn (r ∷ rs) (g ∷ gs) [] p q = absurd (omega (arith, q))
length-in_turn (r ∷ rs) (g ∷ gs) (b ∷ bs) p q =
    let more = length-in_turn rs gs bs (omega (arith, p)) (omega (arith, q)) in
    omega (arith, more)

-- each third of what stands in turn
pub record Thirds {A : Type 0} (xs rs gs bs : List A) : Type 0 where
  pub red : each_third 0 xs ≡ rs
  pub green : each_third 1 xs ≡ gs
  pub blue : each_third 2 xs ≡ bs

pub thirds_in_turn : {A : Type 0} (rs gs bs : List A) → length gs ≡ length rs → length bs ≡ length rs → Thirds (in_turn rs gs bs) rs gs bs
thirds_in_turn [] [] [] p q = record { red = refl; green = refl; blue = refl }
thirds_in_turn [] [] (b ∷ bs) p q = absurd (omega (arith, q))
thirds_in_turn [] (g ∷ gs) bs p q = absurd (omega (arith, p))
thirds_in_turn (r ∷ rs) [] bs p q = absurd (omega (arith, p))
thirds_in_turn (r ∷ rs) (g ∷ gs) [] p q = absurd (omega (arith, q))
thirds_in_turn (r ∷ rs) (g ∷ gs) (b ∷ bs) p q =
    let more = thirds_in_turn rs gs bs (omega (arith, p)) (omega (arith, q)) in
    record { red = ap (λ t. r ∷ t) more.red; green = ap (λ t. g ∷ t) more.green; blue = ap (λ t. b ∷ t) more.blue }

pub in_turn_thirds : {A : Type 0} (n : ℕ) (xs : List A) → length xs ≡ 3 * n → in_turn (each_third 0 xs) (each_third 1 xs) (each_third 2 xs) ≡ xs
in_turn_thirds zero [] long = refl
in_turn_thirds zero (x ∷ xs) long = absurd (omega (arith, long))
in_turn_thirds (suc n) [] long = absurd (omega (arith, long))
in_turn_thirds (suc n) (x ∷ []) long = absurd (omega (arith, long))
in_turn_thirds (suc n) (x ∷ y ∷ []) long = absurd (omega (arith, long))
in_turn_thirds (suc n) (x ∷ y ∷ z ∷ xs) long = ap (λ l. x ∷ y ∷ z ∷ l) (in_turn_thirds n xs (omega (arith, long)))

pub third_long : {A : Type 0} (n k : ℕ) (xs : List A) → k ≤ 2 → length xs ≡ 3 * n → length (each_third k xs) ≡ n
third_long n k xs few long = omega (arith, length-each_third xs k few, long, few)

-- parts, one after the other
in_turn_no_green : {A : Type 0} (r b : List A) → in_turn r [] b ≡ []
in_turn_no_green [] b = refl
in_turn_no_green (x ∷ r) b = refl

in_turn_no_blue : {A : Type 0} (r g : List A) → in_turn r g [] ≡ []
in_turn_no_blue [] g = refl
in_turn_no_blue (x ∷ r) [] = refl
in_turn_no_blue (x ∷ r) (y ∷ g) = refl

pub in_turn_parts : {A : Type 0} (n : ℕ) (r g b : List A) → in_turn (take n r) (take n g) (take n b) ++ in_turn (drop n r) (drop n g) (drop n b) ≡ in_turn r g b
in_turn_parts zero r g b = refl
in_turn_parts (suc n) [] g b = refl
in_turn_parts (suc n) (x ∷ r) [] b = in_turn_no_green (drop n r) (drop (suc n) b)
in_turn_parts (suc n) (x ∷ r) (y ∷ g) [] = in_turn_no_blue (drop n r) (drop n g)
in_turn_parts (suc n) (x ∷ r) (y ∷ g) (z ∷ b) = ap (λ l. x ∷ y ∷ z ∷ l) (in_turn_parts n r g b)
