-- The table of the decisions of residuals.
use Rattle.std.specs.Prelude.{slice_index, nat_le}
use Rattle.std.specs.List.{range_with_len, flat_map}
use Rattle.std.proofs.Common.{◌≡◌, refl, ℕ, ◌+◌, ◌*◌, ◌/◌, ◌%◌, ◌==◌, ◌<◌, ◌≤◌, List, [], ◌∷◌, ◌++◌, length, map, get_or, take, drop, arith, ap, sym, ◌∙◌, zero, suc, Bool, true, false, length-append, slice_set, append_assoc, append-nil}
use Rattle.std.proofs.Math.Seq.{take-suc, take-suc-set, take-append_seam, drop-append-add, take-append-add}
use Rattle.std.proofs.lemmas.List.{get_or-map, length-take-le, length-replicate, take-take, map-append, take-map}
use Rattle.std.proofs.lemmas.Bool.{leb-true}
use Rattle.std.proofs.lemmas.List.FromFn.{get_or-range_with_len, length-range_with_len}
use Rattle.std.specs.Prelude.{replicate}
use Rattle.ffv1_range.specs.declared.encoder.symbol_table.TheConstants.{SYMBOLS, LENGTHS}
use Rattle.ffv1_range.specs.Symbols.{Step, shifted, signed_steps, raising, halvings}
use Rattle.ffv1_range.specs.Weight.{one_if}
use Rattle.ffv1_range.specs.Listed.{step_of, steps_of, of_nine_bits}
use Rattle.ffv1_range.proofs.Standard.{all_below, all_below-at}
use Rattle.ffv1_range.proofs.ListedSteps.{steps_of-append}

abbrev pub code_of : Step → ℕ
code_of s = 512 * s.slot + 256 * one_if s.bit

abbrev pub codes_of : ℕ → List ℕ
codes_of residual = map code_of (signed_steps (of_nine_bits residual))

abbrev pub long_of : ℕ → ℕ
long_of residual = length (codes_of residual)

abbrev pub row_of : ℕ → List ℕ
row_of residual = take 24 (codes_of residual ++ replicate 24 0)

symbols : SYMBOLS ≡ flat_map row_of (range_with_len 0 512)
unfolding raising halvings
symbols = refl

lengths : LENGTHS ≡ map long_of (range_with_len 0 512)
unfolding raising halvings
lengths = refl

is_short : ℕ → Bool
is_short residual = nat_le (long_of residual) 19

all_short : all_below is_short 512 ≡ true
unfolding all_below is_short raising halvings
all_short = refl

-- rows of one length, one after the other
block_at : (f : ℕ → List ℕ) (width : ℕ) → ((x : ℕ) → length (f x) ≡ width) → (xs : List ℕ) (i : ℕ) → i < length xs → take width (drop (i * width) (flat_map f xs)) ≡ f (get_or xs i 0)
block_at f width long [] i inside = absurd (omega arith)
block_at f width long (x ∷ xs) zero inside =
    let none : 0 * width ≡ 0 = omega arith in
    ap (λ k. take width (drop k (flat_map f (x ∷ xs)))) none ∙ ap (λ k. take k (f x ++ flat_map f xs)) (sym (long x)) ∙ take-append_seam (f x) (flat_map f xs)
block_at f width long (x ∷ xs) (suc i) inside =
    let on : suc i * width ≡ length (f x) + i * width = omega (arith, long x) in
    ap (λ k. take width (drop k (flat_map f (x ∷ xs)))) on ∙ ap (take width) (drop-append-add (f x) (flat_map f xs) (i * width)) ∙ block_at f width long xs i (omega arith)

pub row_long : (residual : ℕ) → length (row_of residual) ≡ 24
row_long residual =
    let all = length-append (codes_of residual) (replicate 24 0) in
    length-take-le 24 (codes_of residual ++ replicate 24 0) (omega (arith, all, length-replicate {A = ℕ} 24 0))

pub row_at : (residual : ℕ) → residual < 512 → take 24 (drop (residual * 24) SYMBOLS) ≡ row_of residual
row_at residual small =
    let all = range_with_len 0 512 in
    let place : get_or all residual 0 ≡ residual = get_or-range_with_len 0 512 residual 0 small ∙ omega arith in
    let inside : residual < length all = rw (length-range_with_len 0 512) small in
    ap (λ l. take 24 (drop (residual * 24) l)) symbols ∙ block_at row_of 24 row_long all residual inside ∙ ap row_of place

pub length_at : (residual : ℕ) → residual < 512 → slice_index LENGTHS residual ≡ long_of residual
length_at residual small =
    let all = range_with_len 0 512 in
    let place : get_or all residual 0 ≡ residual = get_or-range_with_len 0 512 residual 0 small ∙ omega arith in
    let inside : residual < length all = rw (length-range_with_len 0 512) small in
    ap (λ l. slice_index l residual) lengths ∙ get_or-map long_of all residual 0 0 inside ∙ ap long_of place

pub short_at : (residual : ℕ) → residual < 512 → long_of residual ≤ 19
unfolding is_short
short_at residual small = leb-true (long_of residual) 19 (all_below-at is_short 512 residual all_short small)

-- ---- a row is listed

pub listed_next : (list row before : List ℕ) (at k base : ℕ) → at + k < length list → k < length row → take (at + k) list ≡ before ++ map (λ n. base + n) (take k row) →
    take (at + (k + 1)) (slice_set list (at + k) (base + get_or row k 0)) ≡ before ++ map (λ n. base + n) (take (k + 1) row)
listed_next list row before at k base room inside is =
    let f : ℕ → ℕ = λ n. base + n in
    let on : at + (k + 1) ≡ suc (at + k) = omega arith in
    let up : k + 1 ≡ suc k = omega arith in
    let more : map f (take (k + 1) row) ≡ map f (take k row) ++ (f (get_or row k 0) ∷ []) =
    ap (λ j. map f (take j row)) up ∙ ap (map f) (take-suc row k 0 inside) ∙ map-append f (take k row) (get_or row k 0 ∷ []) in
    ap (λ j. take j (slice_set list (at + k) (f (get_or row k 0)))) on ∙ take-suc-set list (at + k) (f (get_or row k 0)) room
    ∙ ap (λ l. l ++ (f (get_or row k 0) ∷ [])) is ∙ append_assoc before (map f (take k row)) (f (get_or row k 0) ∷ []) ∙ ap (λ l. before ++ l) (sym more)

slot_of : (base slot : ℕ) (bit : Bool) → (512 * base + (512 * slot + 256 * one_if bit)) / 512 ≡ base + slot
slot_of base slot true = omega arith
slot_of base slot false = omega arith

bit_of : (base slot : ℕ) (bit : Bool) → (((512 * base + (512 * slot + 256 * one_if bit)) / 256 % 2) == 1) ≡ bit
bit_of base slot true = let one : (512 * base + (512 * slot + 256 * 1)) / 256 % 2 ≡ 1 = omega arith in rw one refl
bit_of base slot false = let none : (512 * base + (512 * slot + 256 * 0)) / 256 % 2 ≡ 0 = omega arith in rw none refl

step_is : (context : ℕ) (s : Step) → step_of (context * 16384 + code_of s) ≡ record { slot = context * 32 + s.slot; bit = s.bit }
step_is context s =
    let f : ℕ → Bool → Step = λ slot bit. record { slot = slot; bit = bit } in
    let bits = bit_of (context * 32) s.slot s.bit in
    let slots = slot_of (context * 32) s.slot s.bit in
    let number : context * 16384 + code_of s ≡ 512 * (context * 32) + code_of s = omega arith in
    ap step_of number ∙ ap (λ n. f n ((((512 * (context * 32) + code_of s) / 256) % 2) == 1)) slots ∙ ap (f (context * 32 + s.slot)) bits

steps_are : (context : ℕ) (ss : List Step) → steps_of (map (λ n. context * 16384 + n) (map code_of ss)) ≡ shifted (context * 32) ss
steps_are context [] = refl
steps_are context (s ∷ ss) =
    let rest = steps_are context ss in
    let first = step_is context s in
    cc

pub listed_symbol : (old new : List ℕ) (at context residual n : ℕ) → residual < 512 → long_of residual ≤ n → at ≤ length old →
    take (at + n) new ≡ take at old ++ map (λ k. context * 16384 + k) (take n (row_of residual)) →
    steps_of (take (at + long_of residual) new) ≡ steps_of (take at old) ++ shifted (context * 32) (signed_steps (of_nine_bits residual))
listed_symbol old new at context residual n small long fits is =
    let f : ℕ → ℕ = λ k. context * 16384 + k in
    let few = long_of residual in
    let short = short_at residual small in
    let head = length-take-le at old fits in
    let codes : take few (row_of residual) ≡ codes_of residual = take-take few 24 (codes_of residual ++ replicate 24 0) (omega (arith, short)) ∙ take-append_seam (codes_of residual) (replicate 24 0) in
    let part : take (at + few) new ≡ take at old ++ map f (codes_of residual) =
    sym (take-take (at + few) (at + n) new (omega (arith, long))) ∙ ap (take (at + few)) is
    ∙ ap (λ k. take (k + few) (take at old ++ map f (take n (row_of residual)))) (sym head) ∙ take-append-add (take at old) (map f (take n (row_of residual))) few
    ∙ ap (λ l. take at old ++ l) (take-map f few (take n (row_of residual)) ∙ ap (map f) (take-take few n (row_of residual) long ∙ codes)) in
    ap steps_of part ∙ steps_of-append (take at old) (map f (codes_of residual)) ∙ ap (λ ss. steps_of (take at old) ++ ss) (steps_are context (signed_steps (of_nine_bits residual)))

-- nothing of a row is listed at first
pub listed_none : (list row : List ℕ) (at base : ℕ) → take (at + 0) list ≡ take at list ++ map (λ n. base + n) (take 0 row)
listed_none list row at base =
    let here : at + 0 ≡ at = omega arith in
    ap (λ k. take k list) here ∙ sym (append-nil (take at list))
