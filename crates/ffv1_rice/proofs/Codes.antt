-- No code is the begin of another.
use Rattle.std.proofs.Common.{◌≡◌, refl, sym, ◌∙◌, ap, ℕ, zero, suc, ◌+◌, ◌-◌, ◌*◌, ◌/◌, ◌%◌, ◌^◌}
use Rattle.std.proofs.Common.{◌<◌, ◌≤◌, Bool, true, false, List, [], ◌∷◌, ◌++◌, length}
use Rattle.std.proofs.Common.{drop, replicate, get_or, inl, inr, arith, append_assoc, append-nil}
use Rattle.std.proofs.Common.{length-append, lt-ltb, le-ltb, true≢false, mod-eq_of_lt, mul-le-mul}
use Rattle.std.proofs.Common.{ap₂}
use Rattle.std.proofs.lemmas.Bool.{cases_lt}
use Rattle.std.proofs.lemmas.Nat.{pow_pos, shr_split}
use Rattle.std.proofs.lemmas.List.{drop_at, length-replicate, append_cancel_left}
use Rattle.ffv1_rice.specs.Bits.{binary, number_of}
use Rattle.ffv1_rice.specs.Number.{limit, short_code, whole_code, number_bits, IsShort, IsWhole}
use Rattle.ffv1_rice.specs.Number.{IsCode, Ends, IsBad}
use Rattle.ffv1_rice.proofs.Binary.{length-binary, number-binary}

zeros_one : (m n : ℕ) (xs ys : List Bool) →
    replicate m false ++ (true ∷ xs) ≡ replicate n false ++ (true ∷ ys) → (m ≡ n) × (xs ≡ ys)
zeros_one zero zero xs ys is = (refl, ap (drop 1) is)
zeros_one zero (suc n) xs ys is = absurd (true≢false (ap (λ bits. get_or bits 0 false) is))
zeros_one (suc m) zero xs ys is = absurd (true≢false (sym (ap (λ bits. get_or bits 0 false) is)))
zeros_one (suc m) (suc n) xs ys is =
    let rest = zeros_one m n xs ys (ap (drop 1) is) in
    (ap suc rest.0, rest.1)

pub zeros_more : (m n : ℕ) (xs ys : List Bool) → m < n →
    replicate m false ++ (true ∷ xs) ≡ replicate n false ++ ys → ⊥
zeros_more m zero xs ys less is = absurd (omega (arith, less))
zeros_more zero (suc n) xs ys less is = true≢false (ap (λ bits. get_or bits 0 false) is)
zeros_more (suc m) (suc n) xs ys less is =
    zeros_more m n xs ys (omega (arith, less)) (ap (drop 1) is)

pub binary_one : (n x y : ℕ) (a b : List Bool) → binary n x ++ a ≡ binary n y ++ b →
    (x % 2 ^ n ≡ y % 2 ^ n) × (a ≡ b)
binary_one n x y a b is = (
  sym (number-binary n x a) ∙ ap (number_of n) is ∙ number-binary n y b,
  sym (drop_at (binary n x) a n (length-binary n x)) ∙ ap (drop n) is
      ∙ drop_at (binary n y) b n (length-binary n y),
)

-- two codes that begin the same bits are one
pub record IsOne (u v : ℕ) (c d a b : List Bool) : Type 0 where
  pub number : u ≡ v
  pub code : c ≡ d
  pub rest : a ≡ b

short_one : (k u v : ℕ) (c d a b : List Bool) → IsShort k u c → IsShort k v d → c ++ a ≡ d ++ b →
    IsOne u v c d a b
short_one k u v c d a b one two is =
    let all : replicate (u / 2 ^ k) false ++ (true ∷ (binary k u ++ a)) ≡ replicate (v / 2 ^ k)
    false ++ (true ∷ (binary k v ++ b)) =
    sym (append_assoc (replicate (u / 2 ^ k) false) (true ∷ binary k u) a) ∙ ap (λ code. code ++ a)
    (sym one.is)
    ∙ is ∙ ap (λ code. code ++ b) two.is ∙ append_assoc (replicate (v / 2 ^ k) false)
    (true ∷ binary k v) b in
    let zeros = zeros_one (u / 2 ^ k) (v / 2 ^ k) (binary k u ++ a) (binary k v ++ b) all in
    let low = binary_one k u v a b zeros.1 in
    let same : u ≡ v = sym (shr_split u k) ∙ ap₂ (λ high rest. high * 2 ^ k + rest) zeros.0 low.0 ∙
    shr_split v k in
    record { number = same; code = one.is ∙ ap (short_code k) same ∙ sym two.is; rest = low.1 }

whole_one : (bits u v : ℕ) (c d a b : List Bool) → IsWhole bits u c → IsWhole bits v d → c ++ a ≡ d
    ++ b →
    IsOne u v c d a b
whole_one bits u v c d a b one two is =
    let all : replicate limit false ++ (binary bits (u - 11) ++ a) ≡ replicate limit false ++
    (binary bits (v - 11) ++ b) =
    sym (append_assoc (replicate limit false) (binary bits (u - 11)) a) ∙ ap (λ code. code ++ a)
    (sym one.is)
    ∙ is ∙ ap (λ code. code ++ b) two.is ∙ append_assoc (replicate limit false)
    (binary bits (v - 11)) b in
    let rest = append_cancel_left (replicate limit false) (binary bits (u - 11) ++ a)
    (binary bits (v - 11) ++ b) all in
    let low = binary_one bits (u - 11) (v - 11) a b rest in
    let least = one.least in
    let most = one.most in
    let least' = two.least in
    let most' = two.most in
    let left : (u - 11) % 2 ^ bits ≡ u - 11 = mod-eq_of_lt (omega (arith, least, most)) in
    let right : (v - 11) % 2 ^ bits ≡ v - 11 = mod-eq_of_lt (omega (arith, least', most')) in
    let less : u - 11 ≡ v - 11 = sym left ∙ low.0 ∙ right in
    let same : u ≡ v = omega (arith, less, least, least') in
    record { number = same; code = one.is ∙ ap (whole_code bits) same ∙ sym two.is; rest = low.1 }

short_whole : (bits k u v : ℕ) (c d a b : List Bool) → IsShort k u c → IsWhole bits v d → c ++ a ≡ d
    ++ b → ⊥
short_whole bits k u v c d a b one two is =
    zeros_more (u / 2 ^ k) limit (binary k u ++ a) (binary bits (v - 11) ++ b) one.few
    (sym (append_assoc (replicate (u / 2 ^ k) false) (true ∷ binary k u) a) ∙ ap (λ code. code ++ a)
    (sym one.is)
    ∙ is ∙ ap (λ code. code ++ b) two.is ∙ append_assoc (replicate limit false)
    (binary bits (v - 11)) b)

pub code_one : (bits k u v : ℕ) (c d a b : List Bool) → IsCode bits k u c → IsCode bits k v d → c ++
    a ≡ d ++ b →
    IsOne u v c d a b
code_one bits k u v c d a b (inl one) (inl two) is = short_one k u v c d a b one two is
code_one bits k u v c d a b (inl one) (inr two) is =
    absurd (short_whole bits k u v c d a b one two is)
code_one bits k u v c d a b (inr one) (inl two) is =
    absurd (short_whole bits k v u d c b a two one (sym is))
code_one bits k u v c d a b (inr one) (inr two) is = whole_one bits u v c d a b one two is

pub is_code : (bits k u : ℕ) → u < 2 ^ bits → IsCode bits k u (number_bits bits k u)
is_code bits k u small = elim (cases_lt (u / 2 ^ k) limit) [
  | inl few ↦ rw (lt-ltb (u / 2 ^ k) limit few) (inl (record { few = few; is = refl }))
  | inr many ↦
      let some = pow_pos k in
      let split = shr_split u k in
      let one : 1 ≤ 2 ^ k = omega (arith, some) in
      let product : 12 * 1 ≤ u / 2 ^ k * 2 ^ k = mul-le-mul {n₁ = 12} {m₁ = 1} {n₂ = u / 2 ^ k}
      {m₂ = 2 ^ k} many one in
      rw (le-ltb (u / 2 ^ k) limit many) (inr (record {
        least = omega (arith, split, product);
        most = omega (arith, small);
        is = refl;
      }))
]

pub numbers_one : (bits k u v : ℕ) (a b : List Bool) → u < 2 ^ bits → v < 2 ^ bits →
    number_bits bits k u ++ a ≡ number_bits bits k v ++ b → (u ≡ v) × (a ≡ b)
numbers_one bits k u v a b small small' is =
    let one = code_one bits k u v (number_bits bits k u) (number_bits bits k v) a b
    (is_code bits k u small) (is_code bits k v small') is in
    (one.number, one.rest)

nothing_more : (rest more : List Bool) → rest ++ more ≡ [] → 0 < length more → ⊥
nothing_more [] [] is some = absurd (omega (arith, some))
nothing_more [] (x ∷ more) is some = let long = ap length is in absurd (omega (arith, long))
nothing_more (x ∷ rest) more is some = let long = ap length is in absurd (omega (arith, long))

-- bits that begin with a code do not end within one
pub ends_not : (bits k u : ℕ) (code text rest : List Bool) → IsCode bits k u code → text ≡ code ++
    rest →
    Ends bits k text → ⊥
ends_not bits k u code text rest is begins ends =
    let all : code ++ (rest ++ ends.more) ≡ (text ++ ends.more) ++ [] =
    sym (append_assoc code rest ends.more) ∙ ap (λ bits. bits ++ ends.more) (sym begins) ∙
    sym (append-nil (text ++ ends.more)) in
    let one = code_one bits k u ends.number code (text ++ ends.more) (rest ++ ends.more) [] is
    ends.is all in
    nothing_more rest ends.more one.rest ends.some

pub number_ends_not : (bits k u : ℕ) (text rest : List Bool) → u < 2 ^ bits →
    text ≡ number_bits bits k u ++ rest → Ends bits k text → ⊥
number_ends_not bits k u text rest small begins ends =
    ends_not bits k u (number_bits bits k u) text rest (is_code bits k u small) begins ends

pub one_reason : (bits k : ℕ) (text : List Bool) → Ends bits k text → IsBad bits k text → ⊥
one_reason bits k text ends bad = ends_not bits k bad.number bad.code text bad.rest bad.is
    bad.begins ends

-- nor are they refused, if it is that of a number below 2^bits
pub bad_not : (bits k u : ℕ) (text rest : List Bool) → u < 2 ^ bits → text ≡ number_bits bits k u ++
    rest →
    IsBad bits k text → ⊥
bad_not bits k u text rest small begins bad =
    let one = code_one bits k u bad.number (number_bits bits k u) bad.code rest bad.rest
    (is_code bits k u small) bad.is (sym begins ∙ bad.begins) in
    elim bad.bad [
      | inl large ↦ let same = one.number in absurd (omega (arith, small, same, large))
      | inr both ↦
          let few : u / 2 ^ k < limit = rw (sym one.number) at both.0 in
          let short : IsShort k u (number_bits bits k u) = rw (lt-ltb (u / 2 ^ k) limit few)
          (record { few = few; is = refl }) in
          short_whole bits k u bad.number (number_bits bits k u) bad.code [] [] short both.1
          (ap (λ code. code ++ []) one.code)
    ]

pub length_number : (bits k u : ℕ) → k ≤ bits → length (number_bits bits k u) ≤ 12 + bits
length_number bits k u few = elim (cases_lt (u / 2 ^ k) limit) [
  | inl less ↦ rw (
    lt-ltb (u / 2 ^ k) limit less,
    length-append (replicate (u / 2 ^ k) false)
        (true ∷ binary k u),
    length-replicate (u / 2 ^ k) false,
    length-binary k u,
  )
      (omega (arith, less, few))
  | inr more ↦ rw (
    le-ltb (u / 2 ^ k) limit more,
    length-append (replicate limit false)
        (binary bits (u - 11)),
    length-binary bits (u - 11),
  )
      (omega arith)
]

pub some_number : (bits k u : ℕ) → 1 ≤ length (number_bits bits k u)
some_number bits k u = elim (cases_lt (u / 2 ^ k) limit) [
  | inl less ↦ rw (
    lt-ltb (u / 2 ^ k) limit less,
    length-append (replicate (u / 2 ^ k) false)
        (true ∷ binary k u),
  )
      (omega arith)
  | inr more ↦ rw (
    le-ltb (u / 2 ^ k) limit more,
    length-append (replicate limit false)
        (binary bits (u - 11)),
  )
      (omega arith)
]
