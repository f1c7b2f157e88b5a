-- The words of a line, one by one.
use Rattle.std.proofs.Common.{◌≡◌, ℕ, ◌+◌, ◌<◌, ◌≤◌, nat_lt, not, cond, ◌==◌, Bool, true, false, Some, None, Result, Ok, Err, List, [], ◌∷◌, take, drop, length, get_or, refl, ap, arith, suc, zero, add-one}
use Rattle.std.specs.List.{position, position_or_len}
use Rattle.std.proofs.lemmas.List.Sums.{prefix_len_passes}
use Rattle.std.proofs.lemmas.Bool.{ltb-false}
use Rattle.std.proofs.lemmas.List.Quantifiers.{position-Some}
use Rattle.ffv1_y4m.specs.Sequence.{◌>>=◌}
use Rattle.ffv1_y4m.specs.Header.{words_of, onto_first, judged, all_judged}
use Rattle.ffv1_y4m.specs.declared.fault.Fault.{Fault}
use Rattle.ffv1_y4m.specs.declared.tags.Tags.{Tags}

-- up to its first space, a line is its first word
split_at_space : (xs : List ℕ) (i : ℕ) → i < length xs → (get_or xs i 0 == 32) ≡ true → ((k : ℕ) → k < i → (get_or xs k 0 == 32) ≡ false) →
    words_of xs ≡ take i xs ∷ words_of (drop (suc i) xs)
split_at_space [] i inside space before = absurd (omega (arith, inside))
split_at_space (x ∷ xs) zero inside space before = rw space refl
split_at_space (x ∷ xs) (suc i) inside space before =
    let first : (x == 32) ≡ false = before 0 (omega arith) in
    let more = split_at_space xs i (omega (arith, inside)) space (λ k h. before (suc k) (omega (arith, h))) in
    rw first (ap (onto_first x) more)

no_space : (xs : List ℕ) → ((k : ℕ) → k < length xs → (get_or xs k 0 == 32) ≡ false) → words_of xs ≡ xs ∷ []
no_space [] none = refl
no_space (x ∷ xs) none =
    let first : (x == 32) ≡ false = none 0 (omega arith) in
    let more = no_space xs (λ k h. none (suc k) (omega (arith, h))) in
    rw first (ap (onto_first x) more)

pub words-split : (xs : List ℕ) (i : ℕ) → position (λ c. c == 32) xs ≡ Some i → words_of xs ≡ take i xs ∷ words_of (drop (i + 1) xs)
words-split xs i found =
    let h = position-Some (λ c. c == 32) xs i 0 found in
    rw add-one (split_at_space xs i h.0 h.1 h.2)

not_found : (xs : List ℕ) (b : Bool) → nat_lt (position_or_len (λ c. c == 32) xs) (length xs) ≡ b → cond b (Some (position_or_len (λ c. c == 32) xs)) None ≡ None → length xs ≤ position_or_len (λ c. c == 32) xs
not_found xs true is none = absurd (cc)
not_found xs false is none = ltb-false _ _ is

not_true : (b : Bool) → not b ≡ true → b ≡ false
not_true false h = refl
not_true true h = absurd (cc)

pub words-last : (xs : List ℕ) → position (λ c. c == 32) xs ≡ None → words_of xs ≡ xs ∷ []
words-last xs none =
    let far : length xs ≤ position_or_len (λ c. c == 32) xs = not_found xs _ refl none in
    no_space xs (λ k h. not_true _ (prefix_len_passes (λ c. not (c == 32)) xs k 0 (omega (arith, far, h))))

-- a line is judged word by word
pub judged-split : (most : ℕ) (t : Tags) (xs : List ℕ) (at : ℕ) (word words : List ℕ) (step : Result Tags Fault) → position (λ c. c == 32) xs ≡ Some at → word ≡ take at xs → words ≡ drop (at + 1) xs → step ≡ judged most t word →
    all_judged most t (words_of xs) ≡ (step >>= λ u. all_judged most u (words_of words))
judged-split most t xs at word words step found first more judging =
    rw (words-split xs at found, judging, first, more) refl

pub judged-last : (most : ℕ) (t : Tags) (xs : List ℕ) → position (λ c. c == 32) xs ≡ None → all_judged most t (words_of xs) ≡ judged most t xs
judged-last most t xs none = rw (words-last xs none) (same (judged most t xs))
  where
    same : (r : Result Tags Fault) → (r >>= λ u. all_judged most u []) ≡ r
    same (Ok u) = refl
    same (Err f) = refl
