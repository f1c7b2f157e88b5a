-- The number of a list of bytes.
use Rattle.std.proofs.Common.{◌≡◌, refl, ℕ, zero, suc, ◌+◌, ◌-◌, ◌*◌, ◌/◌, ◌%◌, ◌^◌, ◌<◌, ◌≤◌, ◌≢◌, List, [], ◌∷◌, ◌++◌, length, take, get_or, slice_set, arith, ap, sym, get_or-set_same, get_or-set_other, length-append, length-set}
use Rattle.std.proofs.lemmas.Grind.{common_steps}
use Rattle.std.proofs.lemmas.List.{get_or_append_left}
use Rattle.std.proofs.Math.Seq.{take-suc}
use Rattle.std.proofs.Math.Nat.{pow-succ'}
use Rattle.ffv1_range.specs.Codes.{value, AreBytes, digits}

-- what stands after the first bytes does not count
pub value-append : (xs ys : List ℕ) (k : ℕ) → k ≤ length xs → value (xs ++ ys) k ≡ value xs k
value-append xs ys zero h = refl
value-append xs ys (suc k) h =
    let rest : value (xs ++ ys) k ≡ value xs k = value-append xs ys k (omega arith) in
    let last = get_or_append_left xs ys 0 k (omega arith) in
    cc

pub value-push : (xs : List ℕ) (b n : ℕ) → n ≡ length xs → value (xs ++ (b ∷ [])) (suc n) ≡ 256 * value xs n + b
value-push xs b n e =
    let rest = value-append xs (b ∷ []) n (omega arith) in
    let last : get_or (xs ++ (b ∷ [])) n 0 ≡ b = grind (arith, common_steps) in
    cc

-- a byte is changed after the first k
pub value-set-behind : (xs : List ℕ) (j b k : ℕ) → k ≤ j → value (slice_set xs j b) k ≡ value xs k
value-set-behind xs j b zero h = refl
value-set-behind xs j b (suc k) h =
    let rest : value (slice_set xs j b) k ≡ value xs k = value-set-behind xs j b k (omega arith) in
    let other : k ≢ j = omega arith in
    let last = get_or-set_other xs j k b 0 other in
    cc

-- byte j is changed, which has d more of the first n after it
pub value-set : (xs : List ℕ) (j b n d : ℕ) → n ≡ suc (j + d) → j < length xs →
    value (slice_set xs j b) n + 256 ^ d * get_or xs j 0 ≡ value xs n + 256 ^ d * b
value-set xs j b zero d e fits = absurd (omega arith)
value-set xs j b (suc m) zero e fits =
    let same : m ≡ j = omega arith in
    let front = value-set-behind xs j b m (omega arith) in
    let last : get_or (slice_set xs j b) m 0 ≡ b = rw same (get_or-set_same xs j b 0 fits) in
    let old : get_or xs m 0 ≡ get_or xs j 0 = ap (λ k. get_or xs k 0) same in
    omega arith
value-set xs j b (suc m) (suc d) e fits =
    let rest = value-set xs j b m d (omega arith) fits in
    let other : m ≢ j = omega arith in
    let last = get_or-set_other xs j m b 0 other in
    rw (pow-succ' 256 d) (omega arith)

pub value_below : (xs : List ℕ) → AreBytes xs → (k : ℕ) → value xs k < 256 ^ k
value_below xs are zero = omega arith
value_below xs are (suc k) =
    let rest = value_below xs are k in
    let byte : get_or xs k 0 < 256 = are k in
    omega (arith, pow-succ' 256 k)

-- the digits of the number of some bytes are the bytes
pub digits-value : (xs : List ℕ) → AreBytes xs → (k : ℕ) → k ≤ length xs → digits k (value xs k) ≡ take k xs
digits-value xs are zero h = refl
digits-value xs are (suc k) h =
    let rest = digits-value xs are k (omega arith) in
    let byte : get_or xs k 0 < 256 = are k in
    let front : (256 * value xs k + get_or xs k 0) / 256 ≡ value xs k = omega arith in
    let last : (256 * value xs k + get_or xs k 0) % 256 ≡ get_or xs k 0 = omega arith in
    rw (front, last, rest) (sym (take-suc xs k 0 (omega arith)))

pub length-digits : (k n : ℕ) → length (digits k n) ≡ k
length-digits zero n = refl
length-digits (suc k) n =
    let rest = length-digits k (n / 256) in
    simp length-append (omega arith)

pub value-digits : (k n : ℕ) → n < 256 ^ k → value (digits k n) k ≡ n
value-digits zero n h = omega arith
value-digits (suc k) n h =
    let rest = value-digits k (n / 256) (omega (arith, pow-succ' 256 k)) in
    let long = length-digits k (n / 256) in
    let last = value-push (digits k (n / 256)) (n % 256) k (sym long) in
    omega arith

-- the carry stops at a byte that has room
pub carry_stop : (xs : List ℕ) (at total : ℕ) → 0 < at → at ≤ length xs → value xs (length xs) + 256 ^ (length xs - at) ≡ total →
    value (slice_set xs (at - 1) (get_or xs (at - 1) 0 + 1)) (length (slice_set xs (at - 1) (get_or xs (at - 1) 0 + 1))) ≡ total
carry_stop xs at total positive within carried =
    let one = value-set xs (at - 1) (get_or xs (at - 1) 0 + 1) (length xs) (length xs - at) (omega arith) (omega arith) in
    rw (length-set xs (at - 1) (get_or xs (at - 1) 0 + 1)) (omega arith)

-- a byte of 255 becomes 0, and the carry goes on
pub carry_step : (xs : List ℕ) (at total : ℕ) → 0 < at → at ≤ length xs → value xs (length xs) + 256 ^ (length xs - at) ≡ total → get_or xs (at - 1) 0 ≡ 255 →
    value (slice_set xs (at - 1) 0) (length (slice_set xs (at - 1) 0)) + 256 ^ (length (slice_set xs (at - 1) 0) - (at - 1)) ≡ total
carry_step xs at total positive within carried full =
    let one = value-set xs (at - 1) 0 (length xs) (length xs - at) (omega arith) (omega arith) in
    let longer : length xs - (at - 1) ≡ suc (length xs - at) = omega arith in
    rw (length-set xs (at - 1) 0, longer, pow-succ' 256 (length xs - at)) (let two = rw full at one in omega arith)
