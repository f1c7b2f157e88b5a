-- Lines of two bytes a sample, the low byte first.
use Rattle.std.proofs.Common.{◌≡◌, refl, ap, ◌∙◌, sym, ℕ, zero, suc, ◌+◌, ◌-◌, ◌*◌, ◌/◌, ◌%◌, ◌^◌, ◌<◌, ◌≤◌, ◌==◌, false, List, [], ◌∷◌, length, slice_index, slice_set, length-set, arith, inl, inr, pow_mono}
use Rattle.std.proofs.lemmas.Bool.{cases_lt}
use Rattle.std.proofs.lemmas.Nat.{pow_pos}
use Rattle.std.proofs.Math.Nat.{pow-succ'}
use Rattle.std.proofs.lemmas.List.{ext_get_or}
use Rattle.ffv1_samples.specs.Samples.{numbers_of_pairs, pairs_of_numbers, samples_of, bytes_of}
use Rattle.ffv1_samples.proofs.Pairs.{place_in, length_pairs}
use Rattle.ffv1_rct.specs.Transform.{IsCodedIn, IsOnlyColourIn}
use Rattle.ffv1_rct.specs.Lines.{AreCodedIn, AreOnlyColoursIn, IsKeptFrom}
use Rattle.ffv1_rct.proofs.LinesMore.{colours_more, coded_more, set_same, set_below, set_above}

-- a word at place x
abbrev pub put : List ℕ → ℕ → ℕ → List ℕ
put bytes x word = slice_set (slice_set bytes (2 * x) (word % 256)) (2 * x + 1) (word / 256)

doubled : (x : ℕ) → 2 * suc x ≡ suc (suc (2 * x))
doubled x = omega arith

doubled_more : (x : ℕ) → 2 * suc x + 1 ≡ suc (suc (2 * x + 1))
doubled_more x = omega arith

numbers_set : (bytes : List ℕ) (x low high : ℕ) → numbers_of_pairs (slice_set (slice_set bytes (2 * x) low) (2 * x + 1) high) ≡ slice_set (numbers_of_pairs bytes) x (low + 256 * high)
numbers_set [] x low high = refl
numbers_set (b ∷ []) zero low high = refl
numbers_set (b ∷ []) (suc x) low high = rw (doubled_more x, doubled x) refl
numbers_set (b ∷ c ∷ bytes) zero low high = refl
numbers_set (b ∷ c ∷ bytes) (suc x) low high = rw (doubled_more x, doubled x) (ap (λ t. (b + 256 * c) ∷ t) (numbers_set bytes x low high))

numbers_put : (bytes : List ℕ) (x word : ℕ) → numbers_of_pairs (put bytes x word) ≡ slice_set (numbers_of_pairs bytes) x word
numbers_put bytes x word =
    let whole : word % 256 + 256 * (word / 256) ≡ word = omega arith in
    numbers_set bytes x (word % 256) (word / 256) ∙ ap (slice_set (numbers_of_pairs bytes) x) whole

is_deep : (depth : ℕ) → 8 < depth → (depth == 8) ≡ false
is_deep depth deep = grind arith

pub deep_samples : (depth : ℕ) (bytes : List ℕ) → 8 < depth → samples_of depth bytes ≡ numbers_of_pairs bytes
deep_samples depth bytes deep = rw (is_deep depth deep) refl

pub deep_bytes : (depth : ℕ) (samples : List ℕ) → 8 < depth → bytes_of depth samples ≡ pairs_of_numbers samples
deep_bytes depth samples deep = rw (is_deep depth deep) refl

samples_put : (depth : ℕ) (bytes : List ℕ) (x word : ℕ) → 8 < depth → samples_of depth (put bytes x word) ≡ slice_set (samples_of depth bytes) x word
samples_put depth bytes x word deep = rw (deep_samples depth (put bytes x word) deep, deep_samples depth bytes deep) (numbers_put bytes x word)

in_samples : (depth : ℕ) (bytes : List ℕ) (x : ℕ) → 8 < depth → 2 * x + 1 < length bytes → x < length (samples_of depth bytes)
in_samples depth bytes x deep room = rw (deep_samples depth bytes deep) (place_in x bytes room)

-- one place more
pub colours_put : (depth : ℕ) (y cb cr r g b s h d : List ℕ) (x v u w : ℕ) → s ≡ put r x v → h ≡ put g x u → d ≡ put b x w → 8 < depth → 2 * x + 1 < length r → 2 * x + 1 < length g → 2 * x + 1 < length b →
    AreOnlyColoursIn depth x y cb cr (samples_of depth r) (samples_of depth g) (samples_of depth b) → IsOnlyColourIn depth (slice_index y x) (slice_index cb x) (slice_index cr x) v u w →
    AreOnlyColoursIn depth (x + 1) y cb cr (samples_of depth s) (samples_of depth h) (samples_of depth d)
colours_put depth y cb cr r g b s h d x v u w is_r is_g is_b deep lr lg lb old is =
    rw (is_r, is_g, is_b, samples_put depth r x v deep, samples_put depth g x u deep, samples_put depth b x w deep)
    (colours_more depth y cb cr (samples_of depth r) (samples_of depth g) (samples_of depth b) x v u w (in_samples depth r x deep lr) (in_samples depth g x deep lg) (in_samples depth b x deep lb) old is)

pub kept_put : (old new after : List ℕ) (x word : ℕ) → after ≡ put new x word → IsKeptFrom (2 * x) old new → IsKeptFrom (2 * (x + 1)) old after
kept_put old new after x word is kept = λ k le.
    ap (λ l. slice_index l k) is ∙ set_above (slice_set new (2 * x) (word % 256)) (2 * x + 1) (word / 256) k (omega (arith, le)) ∙ set_above new (2 * x) (word % 256) k (omega (arith, le)) ∙ kept k (omega (arith, le))

-- the transform in place
pub coded_put : (depth : ℕ) (r g b y cb cr : List ℕ) (x v u w : ℕ) → x < length y → x < length cb → x < length cr → IsKeptFrom x r y → IsKeptFrom x g cb → IsKeptFrom x b cr →
    AreCodedIn depth x r g b y cb cr → IsCodedIn depth (slice_index y x) (slice_index cb x) (slice_index cr x) v u w → AreCodedIn depth (x + 1) r g b (slice_set y x v) (slice_set cb x u) (slice_set cr x w)
coded_put depth r g b y cb cr x v u w ly lb lr kr kg kb old is =
    let at = rw (kr x (omega arith), kg x (omega arith), kb x (omega arith)) at is in
    coded_more depth r g b y cb cr x v u w ly lb lr old at

-- the power of 2 and its half
pub top_is : (depth : ℕ) → depth ≤ 16 → 1 * 2 ^ depth % 4294967296 ≡ 2 ^ depth
top_is depth few = let most = pow_mono {i = depth} {j = 16} few in omega (arith, most)

pub record IsHalf (depth half : ℕ) : Type 0 where
  pub some : 0 < half
  pub few : half ≤ 16384
  pub doubled : 2 * half ≡ 2 ^ depth

pub half_is : (depth : ℕ) → 8 < depth → depth ≤ 15 → IsHalf depth (1 * 2 ^ (depth - 1) % 4294967296)
half_is depth deep few =
    let less = depth - 1 in
    let up : depth ≡ suc less = omega arith in
    let most = pow_mono {i = less} {j = 14} (omega arith) in
    let positive = pow_pos less in
    let half : 1 * 2 ^ less % 4294967296 ≡ 2 ^ less = omega (arith, most) in
    let whole : 2 ^ depth ≡ 2 * 2 ^ less = ap (λ k. 2 ^ k) up ∙ pow-succ' 2 less in
    record { some = rw half positive; few = rw half (omega (arith, most)); doubled = rw half (sym whole) }

-- bytes of words
pairs_low : (words : List ℕ) (x : ℕ) → slice_index (pairs_of_numbers words) (2 * x) ≡ slice_index words x % 256
pairs_low [] x = refl
pairs_low (n ∷ words) zero = refl
pairs_low (n ∷ words) (suc x) = rw (doubled x) (pairs_low words x)

pairs_high : (words : List ℕ) (x : ℕ) → slice_index (pairs_of_numbers words) (2 * x + 1) ≡ slice_index words x / 256
pairs_high [] x = refl
pairs_high (n ∷ words) zero = refl
pairs_high (n ∷ words) (suc x) = rw (doubled_more x) (pairs_high words x)

-- the bytes before place x are those of the words
pub record AreBytesOf (depth x : ℕ) (out words : List ℕ) : Type 0 where
  pub each : (k : ℕ) → k < 2 * x → slice_index out k ≡ slice_index (bytes_of depth words) k

pub bytes_more : (depth x word : ℕ) (out after words : List ℕ) → after ≡ put out x word → 8 < depth → 2 * x + 1 < length out → word ≡ slice_index words x → AreBytesOf depth x out words → AreBytesOf depth (x + 1) after words
bytes_more depth x word out after words placed deep room is old = record {
  each = λ k lt. ap (λ l. slice_index l k) placed ∙ elim (cases_lt k (2 * x)) [
    | inl low ↦ set_below (slice_set out (2 * x) (word % 256)) (2 * x + 1) (word / 256) k (omega arith) ∙ set_below out (2 * x) (word % 256) k low ∙ old.each k low
    | inr high ↦ elim (cases_lt k (2 * x + 1)) [
      | inl first ↦
          let same : k ≡ 2 * x = omega arith in
          set_below (slice_set out (2 * x) (word % 256)) (2 * x + 1) (word / 256) k first ∙ set_same out (2 * x) (word % 256) k (omega arith) same
          ∙ ap (λ n. n % 256) is ∙ sym (pairs_low words x) ∙ ap (slice_index (pairs_of_numbers words)) (sym same) ∙ ap (λ l. slice_index l k) (sym (deep_bytes depth words deep))
      | inr second ↦
          let same : k ≡ 2 * x + 1 = omega arith in
          set_same (slice_set out (2 * x) (word % 256)) (2 * x + 1) (word / 256) k (omega (arith, length-set out (2 * x) (word % 256))) same
          ∙ ap (λ n. n / 256) is ∙ sym (pairs_high words x) ∙ ap (slice_index (pairs_of_numbers words)) (sym same) ∙ ap (λ l. slice_index l k) (sym (deep_bytes depth words deep))
    ]
  ];
}

pub bytes_all : (depth : ℕ) (out words : List ℕ) → 8 < depth → length out ≡ 2 * length words → AreBytesOf depth (length words) out words → out ≡ bytes_of depth words
bytes_all depth out words deep long are =
    let pairs : length (bytes_of depth words) ≡ 2 * length words = rw (deep_bytes depth words deep) (length_pairs words) in
    ext_get_or 0 out (bytes_of depth words) (long ∙ sym pairs) (λ k lt. are.each k (omega (arith, lt, long)))
