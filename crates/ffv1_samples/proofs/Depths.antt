-- Samples of bytes, at any depth: each law by whether a sample is one byte.
use Rattle.std.proofs.Common.{subst, inl, inr, sym, ◌≡◌, refl, ap, ◌∙◌, ℕ, zero, suc, ◌<◌, ◌≤◌, ◌+◌, ◌*◌, ◌^◌, ◌%◌, ◌/◌, ◌==◌, ◌&&◌, Bool, true, false, nat_lt, List, [], ◌∷◌, ◌++◌, length, take, drop, slice_index, arith, if◌then◌else◌}
use Rattle.std.proofs.Math.Bool.{and-true}
use Rattle.std.proofs.Math.Seq.{take-suc}
use Rattle.std.proofs.lemmas.Nat.{pow_pos}
use Rattle.std.proofs.lemmas.Bool.{cases_eq, lt-ltb, ltb-true, ne_eqb}
use Rattle.std.proofs.lemmas.Grind.{flat_map-append}
use Rattle.ffv1_samples.specs.Samples.{AreBelow, all_below, are_in_depth, bytes_of, numbers_of_pairs, pairs_of_numbers, sample_bytes, samples_of}
use Rattle.ffv1_samples.proofs.Pairs.{numbers_back, pairs_back, length_pairs, length_numbers, pairs_below, numbers_below, numbers_append, numbers_take, numbers_drop, number_at, place_in, all_taken}

pub samples_back : (depth : ℕ) (samples : List ℕ) → samples_of depth (bytes_of depth samples) ≡ samples
samples_back depth samples = cases (depth == 8)
  where
    cases : (one : Bool) → (if one then (if one then samples else pairs_of_numbers samples) else numbers_of_pairs (if one then samples else pairs_of_numbers samples)) ≡ samples
    cases true = refl
    cases false = numbers_back samples

pub bytes_back : (depth count : ℕ) (bytes : List ℕ) → AreBelow 256 bytes → length bytes ≡ sample_bytes depth * count → bytes_of depth (samples_of depth bytes) ≡ bytes
bytes_back depth count bytes below long = cases (depth == 8) long
  where
    cases : (one : Bool) → length bytes ≡ (if one then 1 else 2) * count → (if one then (if one then bytes else numbers_of_pairs bytes) else pairs_of_numbers (if one then bytes else numbers_of_pairs bytes)) ≡ bytes
    cases true l = refl
    cases false l = pairs_back count bytes below l

pub length_bytes : (depth : ℕ) (samples : List ℕ) → length (bytes_of depth samples) ≡ sample_bytes depth * length samples
length_bytes depth samples = cases (depth == 8)
  where
    cases : (one : Bool) → length (if one then samples else pairs_of_numbers samples) ≡ (if one then 1 else 2) * length samples
    cases true = omega arith
    cases false = length_pairs samples

pub length_samples : (depth count : ℕ) (bytes : List ℕ) → length bytes ≡ sample_bytes depth * count → length (samples_of depth bytes) ≡ count
length_samples depth count bytes long = cases (depth == 8) long
  where
    cases : (one : Bool) → length bytes ≡ (if one then 1 else 2) * count → length (if one then bytes else numbers_of_pairs bytes) ≡ count
    cases true l = omega (arith, l)
    cases false l = length_numbers count bytes l

pub bytes_small : (depth : ℕ) (samples : List ℕ) → AreBelow (2 ^ (8 * sample_bytes depth)) samples → AreBelow 256 (bytes_of depth samples)
bytes_small depth samples below = cases (depth == 8) below
  where
    cases : (one : Bool) → AreBelow (2 ^ (8 * (if one then 1 else 2))) samples → (i : ℕ) → slice_index (if one then samples else pairs_of_numbers samples) i < 256
    cases true h = h
    cases false h = pairs_below samples h

pub samples_small : (depth : ℕ) (bytes : List ℕ) → AreBelow 256 bytes → AreBelow (2 ^ (8 * sample_bytes depth)) (samples_of depth bytes)
samples_small depth bytes below = cases (depth == 8)
  where
    cases : (one : Bool) → (i : ℕ) → slice_index (if one then bytes else numbers_of_pairs bytes) i < 2 ^ (8 * (if one then 1 else 2))
    cases true = below
    cases false = numbers_below bytes below

pub bytes_append : (depth : ℕ) (xs ys : List ℕ) → bytes_of depth (xs ++ ys) ≡ bytes_of depth xs ++ bytes_of depth ys
bytes_append depth xs ys = cases (depth == 8)
  where
    cases : (one : Bool) → (if one then xs ++ ys else pairs_of_numbers (xs ++ ys)) ≡ (if one then xs else pairs_of_numbers xs) ++ (if one then ys else pairs_of_numbers ys)
    cases true = refl
    cases false = flat_map-append (λ n. n % 256 ∷ n / 256 ∷ []) xs ys

pub samples_append : (depth count : ℕ) (xs ys : List ℕ) → length xs ≡ sample_bytes depth * count → samples_of depth (xs ++ ys) ≡ samples_of depth xs ++ samples_of depth ys
samples_append depth count xs ys long = cases (depth == 8) long
  where
    cases : (one : Bool) → length xs ≡ (if one then 1 else 2) * count → (if one then xs ++ ys else numbers_of_pairs (xs ++ ys)) ≡ (if one then xs else numbers_of_pairs xs) ++ (if one then ys else numbers_of_pairs ys)
    cases true l = refl
    cases false l = numbers_append count xs ys l

pub samples_first : (depth count : ℕ) (bytes : List ℕ) → samples_of depth (take (sample_bytes depth * count) bytes) ≡ take count (samples_of depth bytes)
samples_first depth count bytes = cases (depth == 8)
  where
    once : 1 * count ≡ count
    once = omega arith

    cases : (one : Bool) → (if one then take ((if one then 1 else 2) * count) bytes else numbers_of_pairs (take ((if one then 1 else 2) * count) bytes)) ≡ take count (if one then bytes else numbers_of_pairs bytes)
    cases true = ap (λ n. take n bytes) once
    cases false = numbers_take count bytes

pub samples_rest : (depth count : ℕ) (bytes : List ℕ) → samples_of depth (drop (sample_bytes depth * count) bytes) ≡ drop count (samples_of depth bytes)
samples_rest depth count bytes = cases (depth == 8)
  where
    once : 1 * count ≡ count
    once = omega arith

    cases : (one : Bool) → (if one then drop ((if one then 1 else 2) * count) bytes else numbers_of_pairs (drop ((if one then 1 else 2) * count) bytes)) ≡ drop count (if one then bytes else numbers_of_pairs bytes)
    cases true = ap (λ n. drop n bytes) once
    cases false = numbers_drop count bytes

pub sample_at : (depth place : ℕ) (bytes : List ℕ) → (depth == 8) ≡ false → 2 * place + 1 < length bytes → slice_index (samples_of depth bytes) place ≡ slice_index bytes (2 * place) + 256 * slice_index bytes (2 * place + 1)
sample_at depth place bytes wide lt = rw wide (number_at place bytes lt)

different : false ≡ true → ⊥
different e = cc

-- both parts of a test
first_true : (a b : Bool) → (a && b) ≡ true → a ≡ true
first_true true b h = refl
first_true false b h = h

second_true : (a b : Bool) → (a && b) ≡ true → b ≡ true
second_true true b h = h
second_true false b h = absurd (different h)

each_below : (most : ℕ) (ns : List ℕ) → 0 < most → all_below most ns ≡ true → (i : ℕ) → slice_index ns i < most
each_below most [] some h i = some
each_below most (n ∷ ns) some h zero = ltb-true n most (first_true (nat_lt n most) (all_below most ns) h)
each_below most (n ∷ ns) some h (suc i) = each_below most ns some (second_true (nat_lt n most) (all_below most ns) h) i

all_if_below : (most : ℕ) (ns : List ℕ) → AreBelow most ns → all_below most ns ≡ true
all_if_below most [] h = refl
all_if_below most (n ∷ ns) h =
    let head : nat_lt n most ≡ true = lt-ltb n most (h 0) in
    rw head (all_if_below most ns (λ i. h (suc i)))

pub each_in_depth : (depth : ℕ) (bytes : List ℕ) → AreBelow 256 bytes → are_in_depth depth bytes ≡ true → AreBelow (2 ^ depth) (samples_of depth bytes)
each_in_depth depth bytes small h = elim (cases_eq depth 8) [
  | inl is ↦ subst (λ d. AreBelow (2 ^ d) (samples_of d bytes)) (sym is) small
  | inr other ↦
      let two : (depth == 8) ≡ false = ne_eqb depth 8 other in
      let tested : all_below (2 ^ depth) (numbers_of_pairs bytes) ≡ true = rw two at h in
      let are : samples_of depth bytes ≡ numbers_of_pairs bytes = rw two refl in
      subst (AreBelow (2 ^ depth)) (sym are) (each_below (2 ^ depth) (numbers_of_pairs bytes) (pow_pos depth) tested)
]

pub in_depth_if_each : (depth : ℕ) (bytes : List ℕ) → AreBelow (2 ^ depth) (samples_of depth bytes) → are_in_depth depth bytes ≡ true
in_depth_if_each depth bytes h = cases (depth == 8) h
  where
    cases : (one : Bool) → AreBelow (2 ^ depth) (if one then bytes else numbers_of_pairs bytes) → (if one then true else all_below (2 ^ depth) (numbers_of_pairs bytes)) ≡ true
    cases true below = refl
    cases false below = all_if_below (2 ^ depth) (numbers_of_pairs bytes) below

-- one number more, last
all_below_append : (most n : ℕ) (ns : List ℕ) → all_below most (ns ++ (n ∷ [])) ≡ (all_below most ns && nat_lt n most)
all_below_append most n [] = and-true (nat_lt n most)
all_below_append most n (m ∷ ns) = cases (nat_lt m most) (all_below_append most n ns)
  where
    cases : (first : Bool) → all_below most (ns ++ (n ∷ [])) ≡ (all_below most ns && nat_lt n most)
        → (first && all_below most (ns ++ (n ∷ []))) ≡ ((first && all_below most ns) && nat_lt n most)
    cases true h = h
    cases false h = refl

-- two bytes more
pub below_more : (most place : ℕ) (bs : List ℕ) → 2 * place + 1 < length bs
    → all_below most (numbers_of_pairs (take (2 * (place + 1)) bs)) ≡ (all_below most (numbers_of_pairs (take (2 * place) bs)) && nat_lt (slice_index bs (2 * place) + 256 * slice_index bs (2 * place + 1)) most)
below_more most place bs lt =
    let next : place + 1 ≡ suc place = omega arith in
    let more = numbers_take (suc place) bs in
    let so_far = numbers_take place bs in
    let long = place_in place bs lt in
    let one = take-suc (numbers_of_pairs bs) place 0 long in
    let number = number_at place bs lt in
    rw next (ap (all_below most) (more ∙ one) ∙ all_below_append most (slice_index (numbers_of_pairs bs) place) (take place (numbers_of_pairs bs)) ∙ rw (so_far, number) refl)

-- all pairs of bytes
pub below_all : (most place : ℕ) (bs : List ℕ) → length bs / 2 ≤ place → all_below most (numbers_of_pairs (take (2 * place) bs)) ≡ all_below most (numbers_of_pairs bs)
below_all most place bs end = ap (all_below most) (numbers_take place bs ∙ all_taken place bs end)
