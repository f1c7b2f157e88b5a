-- Bytes that are struck out by tables: one alone, and eight at once.
use Rattle.std.specs.Prelude.{bit_xor, slice_index, fold}
use Rattle.std.specs.Int.{from_le_bytes, w64}
use Rattle.std.specs.List.{range_with_len}
use Rattle.std.proofs.Common.{◌≡◌, refl, ℕ, zero, suc, ◌+◌, ◌*◌, ◌/◌, ◌%◌, ◌^◌, ◌<◌, List, [], ◌∷◌, length, map, take, drop, get_or, arith, ap, sym, ◌∙◌}
use Rattle.std.specs.Int.Bits.{xor_assoc, xor_shifted, xor_zero_r}
use Rattle.std.specs.Simd.{first_chunks}
use Rattle.std.proofs.Math.Seq.{take-add}
use Rattle.std.proofs.lemmas.List.{drop-drop, get_or-drop, get_or-map}
use Rattle.std.proofs.lemmas.List.Sums.{fold-append, fold_more}
use Rattle.std.proofs.lemmas.List.FromFn.{get_or-range_with_len, length-range_with_len}
use Rattle.std.proofs.lemmas.Nat.{xor_block, xor_comm, xor_lt}
use Rattle.ffv1_sum.specs.declared.tables.TheConstants.{ENTRIES}
use Rattle.ffv1_sum.specs.Sum.{bit_steps, byte_step, entry_of, number_of}
use Rattle.ffv1_sum.proofs.Steps.{none, steps_add, steps_shifted, steps_xor}

-- ---- the tables

abbrev row : ℕ → List ℕ
row behind = map (entry_of behind) (range_with_len 0 256)

rows : ENTRIES ≡ map row (range_with_len 0 8)
unfolding bit_steps
rows = refl

pub table : (behind byte : ℕ) → behind < 8 → byte < 256 → slice_index (get_or ENTRIES behind []) byte ≡ entry_of behind byte
table behind byte few small =
    let behinds = range_with_len 0 8 in
    let bytes = range_with_len 0 256 in
    let number : get_or behinds behind 0 ≡ behind = get_or-range_with_len 0 8 behind 0 few ∙ omega arith in
    let long : behind < length behinds = rw (length-range_with_len 0 8) few in
    let place : get_or bytes byte 0 ≡ byte = get_or-range_with_len 0 256 byte 0 small ∙ omega arith in
    let wide : byte < length bytes = rw (length-range_with_len 0 256) small in
    ap (λ (l : List (List ℕ)). slice_index (get_or l behind []) byte) rows ∙ ap (λ (l : List ℕ). slice_index l byte) (get_or-map row behinds behind 0 [] long ∙ ap row number)
    ∙ get_or-map (entry_of behind) bytes byte 0 0 wide ∙ ap (entry_of behind) place

-- ---- bytes, by their number

abbrev pub AreSmall : List ℕ → Type 0
AreSmall [] = Unit {0}
AreSmall (b ∷ bs) = (b < 256) × AreSmall bs

pub small_at : (bs : List ℕ) → ((k : ℕ) → slice_index bs k < 256) → AreSmall bs
small_at [] small = tt
small_at (b ∷ bs) small = (small 0, small_at bs (λ k. small (suc k)))

first_apart : (b n : ℕ) → b < 256 → b + 256 * n ≡ bit_xor b (n * 2 ^ 8)
first_apart b n small = omega arith ∙ sym (xor_shifted n 8 b small) ∙ xor_comm (n * 2 ^ 8) b

pub by_number : (sum : ℕ) (bs : List ℕ) → AreSmall bs → bit_steps (8 * length bs) (bit_xor sum (number_of bs)) ≡ fold byte_step sum bs
by_number sum [] small = none (bit_xor sum 0) ∙ xor_zero_r sum
by_number sum (b ∷ bs) small =
    let n = number_of bs in
    let places : 8 * suc (length bs) ≡ 8 + 8 * length bs = omega arith in
    let apart : bit_xor sum (b + 256 * n) ≡ bit_xor (bit_xor sum b) (n * 2 ^ 8) = ap (bit_xor sum) (first_apart b n small.0) ∙ sym (xor_assoc sum b (n * 2 ^ 8)) in
    let first : bit_steps 8 (bit_xor (bit_xor sum b) (n * 2 ^ 8)) ≡ bit_xor (byte_step sum b) n =
    steps_xor 8 (bit_xor sum b) (n * 2 ^ 8) ∙ ap (bit_xor (byte_step sum b)) (steps_shifted 8 n) in
    ap (λ k. bit_steps k (bit_xor sum (b + 256 * n))) places ∙ steps_add 8 (8 * length bs) (bit_xor sum (b + 256 * n))
    ∙ ap (bit_steps (8 * length bs)) (ap (bit_steps 8) apart ∙ first) ∙ by_number (byte_step sum b) bs small.1

-- each byte by itself
abbrev entries_of : List ℕ → ℕ
entries_of [] = 0
entries_of (b ∷ bs) = bit_xor (entry_of (length bs) b) (entries_of bs)

pub by_entries : (bs : List ℕ) → AreSmall bs → bit_steps (8 * length bs) (number_of bs) ≡ entries_of bs
by_entries [] small = none 0
by_entries (b ∷ bs) small =
    let n = number_of bs in
    let m = 8 * length bs in
    let places : 8 * suc (length bs) ≡ m + 8 = omega arith in
    let turned : 8 * suc (length bs) ≡ 8 + m = omega arith in
    let rest : bit_steps (8 * suc (length bs)) (n * 2 ^ 8) ≡ bit_steps m n = ap (λ k. bit_steps k (n * 2 ^ 8)) turned ∙ steps_add 8 m (n * 2 ^ 8) ∙ ap (bit_steps m) (steps_shifted 8 n) in
    ap (bit_steps (8 * suc (length bs))) (first_apart b n small.0) ∙ steps_xor (8 * suc (length bs)) b (n * 2 ^ 8)
    ∙ ap (λ x. bit_xor x (bit_steps (8 * suc (length bs)) (n * 2 ^ 8))) (ap (λ k. bit_steps k b) places) ∙ ap (bit_xor (entry_of (length bs) b)) (rest ∙ by_entries bs small.1)

-- ---- eight bytes

-- the eight bytes of a number
abbrev bytes_of : ℕ → List ℕ
bytes_of x =
    x % 256 ∷ x / 256 % 256 ∷ x / 65536 % 256 ∷ x / 16777216 % 256 ∷ x / 4294967296 % 256 ∷ x / 1099511627776 % 256 ∷ x / 281474976710656 % 256 ∷ x / 72057594037927936 % 256 ∷ []

whole : (x : ℕ) → x < 2 ^ 64 → number_of (bytes_of x) ≡ x
whole x small = omega (arith, small)

small_bytes : (x : ℕ) → AreSmall (bytes_of x)
small_bytes x = (omega arith, (omega arith, (omega arith, (omega arith, (omega arith, (omega arith, (omega arith, (omega arith, tt))))))))

in_order : (a b c d e f g h : ℕ) → bit_xor (bit_xor (bit_xor (bit_xor (bit_xor (bit_xor (bit_xor a b) c) d) e) f) g) h ≡ bit_xor a (bit_xor b (bit_xor c (bit_xor d (bit_xor e (bit_xor f (bit_xor g h))))))
in_order a b c d e f g h = simp xor_assoc

pub eight : (x : ℕ) → x < 2 ^ 64 →
    bit_xor (bit_xor (bit_xor (bit_xor (bit_xor (bit_xor (bit_xor (entry_of 7 (x % 256)) (entry_of 6 (x / 256 % 256))) (entry_of 5 (x / 65536 % 256))) (entry_of 4 (x / 16777216 % 256))) (entry_of 3 (x / 4294967296 % 256))) (entry_of 2 (x / 1099511627776 % 256))) (entry_of 1 (x / 281474976710656 % 256))) (entry_of 0 (x / 72057594037927936 % 256))
    ≡ bit_steps 64 x
eight x small =
    let last = entry_of 0 (x / 72057594037927936 % 256) in
    in_order (entry_of 7 (x % 256)) (entry_of 6 (x / 256 % 256)) (entry_of 5 (x / 65536 % 256)) (entry_of 4 (x / 16777216 % 256)) (entry_of 3 (x / 4294967296 % 256)) (entry_of 2 (x / 1099511627776 % 256)) (entry_of 1 (x / 281474976710656 % 256)) last
    ∙ ap (λ y. bit_xor (entry_of 7 (x % 256)) (bit_xor (entry_of 6 (x / 256 % 256)) (bit_xor (entry_of 5 (x / 65536 % 256)) (bit_xor (entry_of 4 (x / 16777216 % 256)) (bit_xor (entry_of 3 (x / 4294967296 % 256)) (bit_xor (entry_of 2 (x / 1099511627776 % 256)) (bit_xor (entry_of 1 (x / 281474976710656 % 256)) y))))))) (sym (xor_zero_r last))
    ∙ sym (by_entries (bytes_of x) (small_bytes x)) ∙ ap (bit_steps 64) (whole x small)

-- eight bytes of a list are its number
pub listed : (bs : List ℕ) → length bs ≡ 8 → number_of bs ≡ from_le_bytes w64 bs
listed (a ∷ b ∷ c ∷ d ∷ e ∷ f ∷ g ∷ h ∷ []) long = omega arith
listed bs long = absurd (omega (arith, long))

-- the sum after eight bytes, as it is computed
pub block : (sum : ℕ) (bs : List ℕ) → sum < 2 ^ 32 → length bs ≡ 8 → AreSmall bs → bit_steps 64 (bit_xor sum (from_le_bytes w64 bs)) ≡ fold byte_step sum bs
block sum bs small long are =
    ap (λ x. bit_steps 64 (bit_xor sum x)) (sym (listed bs long)) ∙ ap (λ n. bit_steps (8 * n) (bit_xor sum (number_of bs))) (sym long) ∙ by_number sum bs are

-- the sum after one
pub one : (sum byte : ℕ) → byte < 256 → bit_xor (sum / 256) (entry_of 0 (bit_xor sum byte % 256)) ≡ byte_step sum byte
one sum byte small =
    let x = bit_xor sum byte in
    let high : x / 256 ≡ sum / 256 =
    let parts : sum / 256 * 2 ^ 8 + sum % 256 ≡ sum = omega arith in
    let zero_high : 0 * 2 ^ 8 + byte ≡ byte = omega arith in
    let both : x ≡ bit_xor (sum / 256) 0 * 2 ^ 8 + bit_xor (sum % 256) byte =
    sym (ap (λ y. bit_xor y (0 * 2 ^ 8 + byte)) parts ∙ ap (bit_xor sum) zero_high) ∙ xor_block 8 (sum / 256) 0 (sum % 256) byte (omega arith) (omega (arith, small)) in
    let low : bit_xor (sum % 256) byte < 2 ^ 8 = xor_lt 8 (sum % 256) byte (omega arith) (omega (arith, small)) in
    let plain = xor_zero_r (sum / 256) in
    omega (arith, both, low, plain) in
    let apart : x ≡ bit_xor (x % 256) (x / 256 * 2 ^ 8) = omega arith ∙ first_apart (x % 256) (x / 256) (omega arith) in
    sym (ap (bit_steps 8) apart ∙ steps_xor 8 (x % 256) (x / 256 * 2 ^ 8) ∙ ap (bit_xor (bit_steps 8 (x % 256))) (steps_shifted 8 (x / 256)) ∙ xor_comm (bit_steps 8 (x % 256)) (x / 256)
    ∙ ap (λ y. bit_xor y (entry_of 0 (x % 256))) high)

chunk_at : (k i : ℕ) (bytes : List ℕ) → i < k → get_or (first_chunks 8 k bytes) i [] ≡ take 8 (drop (8 * i) bytes)
chunk_at zero i bytes inside = absurd (omega (arith, inside))
chunk_at (suc k) zero bytes inside = refl
chunk_at (suc k) (suc i) bytes inside =
    let before : i < k = omega (arith, inside) in
    let places : drop (8 * i) (drop 8 bytes) ≡ drop (8 * suc i) bytes = drop-drop (8 * i) 8 bytes ∙ ap (λ n. drop n bytes) (omega arith) in
    chunk_at k i (drop 8 bytes) before ∙ ap (take 8) places

-- a list of bytes goes on by a block
pub next_block : (sum i : ℕ) (bytes : List ℕ) → i < length bytes / 8 →
    fold byte_step (fold byte_step sum (take (8 * i) bytes)) (get_or (first_chunks 8 (length bytes / 8) bytes) i []) ≡ fold byte_step sum (take (8 * (i + 1)) bytes)
next_block sum i bytes inside =
    let places : 8 * i + 8 ≡ 8 * (i + 1) = omega arith in
    ap (fold byte_step (fold byte_step sum (take (8 * i) bytes))) (chunk_at (length bytes / 8) i bytes inside)
    ∙ sym (fold-append byte_step sum (take (8 * i) bytes) (take 8 (drop (8 * i) bytes)))
    ∙ ap (fold byte_step sum) (sym (take-add (8 * i) 8 bytes) ∙ ap (λ n. take n bytes) places)

pub next_byte : (sum done i : ℕ) (bytes : List ℕ) → done + i < length bytes →
    byte_step (fold byte_step sum (take (done + i) bytes)) (slice_index (drop done bytes) i) ≡ fold byte_step sum (take (done + (i + 1)) bytes)
next_byte sum done i bytes inside =
    let places : done + i + 1 ≡ done + (i + 1) = omega arith in
    ap (byte_step (fold byte_step sum (take (done + i) bytes))) (get_or-drop done bytes i 0) ∙ sym (fold_more byte_step sum bytes (done + i) 0 inside) ∙ ap (λ n. fold byte_step sum (take n bytes)) places
