-- Variable-size integers: what is read is one, and one is read.
use Rattle.std.proofs.Common.{◌≡◌, ◌≤◌, ◌<◌, ◌-◌, ◌^◌, ◌==◌, ◌∙◌, ◌++◌, ◌∷◌, [], ℕ, List, suc, zero, Bool, true, false, inl, inr, nat_lt, nat_le, Result, Ok, Err, length, refl, sym, ap, subst, arith}
use Rattle.std.proofs.lemmas.Bool.{cases_eq, eq-eqb, le-leb, lt-leb, ltb-false}
use Rattle.ffv1_reads.specs.Reads.{Looked, Met, Stop, given, read_on, taken}
use Rattle.ffv1_reads.specs.declared.fault.FileFault.TheVariants as fault
use Rattle.ffv1_reads.proofs.Results.{ok_is, read_on_ok}
use Rattle.ffv1_reads.proofs.WantedBytes.{taken_complete, wanted_sound}
use Rattle.ffv1_ebml.specs.Vints.{IsVint, length_of, vint_read, vint_rest}
use Rattle.ffv1_ebml.proofs.VintReadings.{vint_others, vint_tail, vint_whole}

first_1 : (b : ℕ) → 128 ≤ b → length_of b ≡ 1
unfolding length_of
first_1 b h = let t1 : nat_le 128 b ≡ true = le-leb _ _ h in rw t1 refl

first_2 : (b : ℕ) → 64 ≤ b → b < 128 → length_of b ≡ 2
unfolding length_of
first_2 b h l =
    let t1 : nat_le 128 b ≡ false = lt-leb _ _ l in
    let t2 : nat_le 64 b ≡ true = le-leb _ _ h in
    rw (t1, t2) refl

first_3 : (b : ℕ) → 32 ≤ b → b < 64 → length_of b ≡ 3
unfolding length_of
first_3 b h l =
    let t1 : nat_le 128 b ≡ false = lt-leb 128 b (omega (arith, l)) in
    let t2 : nat_le 64 b ≡ false = lt-leb _ _ l in
    let t3 : nat_le 32 b ≡ true = le-leb _ _ h in
    rw (t1, t2, t3) refl

first_4 : (b : ℕ) → 16 ≤ b → b < 32 → length_of b ≡ 4
unfolding length_of
first_4 b h l =
    let t1 : nat_le 128 b ≡ false = lt-leb 128 b (omega (arith, l)) in
    let t2 : nat_le 64 b ≡ false = lt-leb 64 b (omega (arith, l)) in
    let t3 : nat_le 32 b ≡ false = lt-leb _ _ l in
    let t4 : nat_le 16 b ≡ true = le-leb _ _ h in
    rw (t1, t2, t3, t4) refl

first_5 : (b : ℕ) → 8 ≤ b → b < 16 → length_of b ≡ 5
unfolding length_of
first_5 b h l =
    let t1 : nat_le 128 b ≡ false = lt-leb 128 b (omega (arith, l)) in
    let t2 : nat_le 64 b ≡ false = lt-leb 64 b (omega (arith, l)) in
    let t3 : nat_le 32 b ≡ false = lt-leb 32 b (omega (arith, l)) in
    let t4 : nat_le 16 b ≡ false = lt-leb _ _ l in
    let t5 : nat_le 8 b ≡ true = le-leb _ _ h in
    rw (t1, t2, t3, t4, t5) refl

first_6 : (b : ℕ) → 4 ≤ b → b < 8 → length_of b ≡ 6
unfolding length_of
first_6 b h l =
    let t1 : nat_le 128 b ≡ false = lt-leb 128 b (omega (arith, l)) in
    let t2 : nat_le 64 b ≡ false = lt-leb 64 b (omega (arith, l)) in
    let t3 : nat_le 32 b ≡ false = lt-leb 32 b (omega (arith, l)) in
    let t4 : nat_le 16 b ≡ false = lt-leb 16 b (omega (arith, l)) in
    let t5 : nat_le 8 b ≡ false = lt-leb _ _ l in
    let t6 : nat_le 4 b ≡ true = le-leb _ _ h in
    rw (t1, t2, t3, t4, t5, t6) refl

first_7 : (b : ℕ) → 2 ≤ b → b < 4 → length_of b ≡ 7
unfolding length_of
first_7 zero h l = absurd (omega (arith, h))
first_7 (suc zero) h l = absurd (omega (arith, h))
first_7 (suc (suc zero)) h l = refl
first_7 (suc (suc (suc zero))) h l = refl
first_7 (suc (suc (suc (suc b)))) h l = absurd (omega (arith, l))

first_8 : (b : ℕ) → 1 ≤ b → b < 2 → length_of b ≡ 8
unfolding length_of
first_8 zero h l = absurd (omega (arith, h))
first_8 (suc zero) h l = refl
first_8 (suc (suc b)) h l = absurd (omega (arith, l))

-- how many bytes there are, by the place of the first byte's highest bit 1
pub length_first : (n b : ℕ) → 1 ≤ n → n ≤ 8 → 2 ^ (8 - n) ≤ b → b < 2 ^ (9 - n) → length_of b ≡ n
length_first zero b some most low high = absurd (omega (arith, some))
length_first (suc zero) b some most low high = first_1 b low
length_first (suc (suc zero)) b some most low high = first_2 b low high
length_first (suc (suc (suc zero))) b some most low high = first_3 b low high
length_first (suc (suc (suc (suc zero)))) b some most low high = first_4 b low high
length_first (suc (suc (suc (suc (suc zero))))) b some most low high = first_5 b low high
length_first (suc (suc (suc (suc (suc (suc zero)))))) b some most low high = first_6 b low high
length_first (suc (suc (suc (suc (suc (suc (suc zero))))))) b some most low high = first_7 b low high
length_first (suc (suc (suc (suc (suc (suc (suc (suc zero)))))))) b some most low high = first_8 b low high
length_first (suc (suc (suc (suc (suc (suc (suc (suc (suc n))))))))) b some most low high = absurd (omega (arith, most))

-- one that is there is read
pub vint_complete : (most left : ℕ) (bytes rest : List ℕ) → IsVint bytes → length bytes ≤ most → length bytes ≤ left → vint_read most left (bytes ++ rest) ≡ Ok (bytes, rest)
vint_complete most left [] rest is few fits = absurd (omega (arith, is.0))
vint_complete most left (b ∷ bs) rest is few fits =
    let n = length (b ∷ bs) in
    let others : length bs ≡ n - 1 = omega arith in
    vint_whole most left (λ e. omega (arith, e, fits)) ((b ∷ bs) ++ rest)
    ∙ ap (λ z. read_on z (vint_rest most left)) (taken_complete 1 (b ∷ []) (bs ++ rest) refl)
    ∙ vint_others most left n (b ∷ []) is.1 few fits (bs ++ rest)
    ∙ ap (λ z. read_on z (λ more. given ((b ∷ []) ++ more))) (taken_complete (n - 1) bs rest others)

-- what is read is one
pub record ReadsVint (most left : ℕ) (text bytes rest : List ℕ) : Type 0 where
  pub text_is : text ≡ bytes ++ rest
  pub is : IsVint bytes
  pub few : length bytes ≤ most
  pub fits : length bytes ≤ left

pub some_length : (b : ℕ) → 1 ≤ length_of b
unfolding length_of
some_length b = grind arith

vint_empty : (most left : ℕ) → left ≡ 0 → (text : List ℕ) → vint_read most left text ≡ Err (Met fault.Truncated text)
unfolding vint_read
vint_empty most left none text = let test : (left == 0) ≡ true = eq-eqb _ _ none in rw test refl

rest_sound : (most left b : ℕ) (text : List ℕ) (p : List ℕ × List ℕ) → vint_rest most left (b ∷ []) text ≡ Ok p → ReadsVint most left (b ∷ text) p.0 p.1
rest_sound most left b text p h = on_tests (nat_lt most (length_of b)) (nat_lt left (length_of b)) refl refl h
  where
    on_tests : (s t : Bool) → nat_lt most (length_of b) ≡ s → nat_lt left (length_of b) ≡ t → vint_rest most left (b ∷ []) text ≡ Ok p → ReadsVint most left (b ∷ text) p.0 p.1
    on_tests true t x y h = absurd (cc (rw x at h))
    on_tests false true x y h = absurd (cc (rw (x, y) at h))
    on_tests false false x y h =
        let n = length_of b in
        let tail : vint_tail n (b ∷ []) text ≡ Ok p = rw (x, y) at h in
        let q = read_on_ok (taken (n - 1) text) (λ more. given ((b ∷ []) ++ more)) p tail in
        let parts = wanted_sound Looked (n - 1) text q.0 q.1 in
        let some : 1 ≤ n = some_length b in
        let long : length (b ∷ q.0.0) ≡ n = omega (arith, parts.1, some) in
        let few : n ≤ most = ltb-false _ _ x in
        let fits : n ≤ left = ltb-false _ _ y in
        let P : List ℕ × List ℕ → Type 0 = λ z. ReadsVint most left (b ∷ text) z.0 z.1 in
        subst P (ok_is (b ∷ q.0.0, q.0.1) p q.2) (record {
          text_is = ap (λ z. b ∷ z) parts.0;
          is = (omega (arith, long, some), long);
          few = omega (arith, long, few);
          fits = omega (arith, long, fits);
        })

pub vint_sound : (most left : ℕ) (text : List ℕ) (p : List ℕ × List ℕ) → vint_read most left text ≡ Ok p → ReadsVint most left text p.0 p.1
vint_sound most left text p h = elim (cases_eq left 0) [
  | inl none ↦ absurd (no_ok none)
  | inr some ↦ on_first (read_on_ok (taken 1 text) (vint_rest most left) p (sym (vint_whole most left some text) ∙ h))
]
  where
    differ : (q : List ℕ × List ℕ) → ◌≡◌ {A = Result (List ℕ × List ℕ) Stop} (Err (Met fault.Truncated text)) (Ok q) → ⊥
    differ q e = absurd (cc)

    no_ok : left ≡ 0 → ⊥
    no_ok none = differ p (sym (vint_empty most left none text) ∙ h)

    one : (first after : List ℕ) → length first ≡ 1 → text ≡ first ++ after → vint_rest most left first after ≡ Ok p → ReadsVint most left text p.0 p.1
    one [] after long is h = absurd (omega (arith, long))
    one (b ∷ []) after long is h = let P : List ℕ → Type 0 = λ z. ReadsVint most left z p.0 p.1 in subst P (sym is) (rest_sound most left b after p h)
    one (b ∷ c ∷ cs) after long is h = absurd (omega (arith, long))

    on_first : (q : List ℕ × List ℕ) × (taken 1 text ≡ Ok q) × (vint_rest most left q.0 q.1 ≡ Ok p) → ReadsVint most left text p.0 p.1
    on_first (q, first, rest) = let parts = wanted_sound Looked 1 text q first in one q.0 q.1 parts.1 parts.0 rest
